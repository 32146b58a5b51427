use Rattle.relationships.proofs.GivenLemmas
use Rattle.relationships.proofs.laws.givens.givens_servable_law.Goals as goal

pub returns : goal.returns
returns c = GivenLemmas.givens_servable_law
