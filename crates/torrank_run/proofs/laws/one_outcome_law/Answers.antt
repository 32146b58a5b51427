use Rattle.torrank_run.proofs.Comings.{one_outcome}
use Rattle.torrank_run.proofs.laws.one_outcome_law.Goals as goal

pub returns : goal.returns
returns c = one_outcome
