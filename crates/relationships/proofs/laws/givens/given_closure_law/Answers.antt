use Rattle.relationships.proofs.GivenLemmas
use Rattle.relationships.proofs.laws.givens.given_closure_law.Goals as goal

pub returns : goal.returns
returns c = GivenLemmas.given_closure_law
