use Rattle.relationships.proofs.GivenLemmas
use Rattle.relationships.proofs.laws.givens.all_givens_law.Goals as goal

pub returns : goal.returns
returns c = GivenLemmas.all_givens_law
