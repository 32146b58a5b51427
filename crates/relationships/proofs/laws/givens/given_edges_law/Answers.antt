use Rattle.relationships.proofs.GivenLemmas
use Rattle.relationships.proofs.laws.givens.given_edges_law.Goals as goal

pub returns : goal.returns
returns c = GivenLemmas.given_edges_law
