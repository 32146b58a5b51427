use Rattle.relationships.proofs.GivenLemmas
use Rattle.relationships.proofs.laws.givens.given_serving_law.Goals as goal

pub returns : goal.returns
returns c = GivenLemmas.given_serving_law
