use Rattle.torgrade_run.proofs.Comings.{one_outcome}
use Rattle.torgrade_run.proofs.laws.one_outcome_law.Goals as goal

pub returns : goal.returns
returns c = one_outcome
