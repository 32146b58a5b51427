use Rattle.torleak_run.proofs.Comings.{one_outcome}
use Rattle.torleak_run.proofs.laws.one_outcome_law.Goals as goal

pub returns : goal.returns
returns c = one_outcome c.one_value.ensures
