use Rattle.result_laws.proofs.GrowingLemmas
use Rattle.result_laws.proofs.laws.forced_stays_law.Goals as goal

pub returns : goal.returns
returns c = GrowingLemmas.forced_stays_law
