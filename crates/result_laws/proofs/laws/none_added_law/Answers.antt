use Rattle.result_laws.proofs.PossibleLemmas
use Rattle.result_laws.proofs.laws.none_added_law.Goals as goal

pub returns : goal.returns
returns c = PossibleLemmas.none_added_law
