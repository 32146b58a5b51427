use Rattle.tor_output.proofs.Comings.{one_outcome}
use Rattle.run_laws.proofs.laws.one_outcome_law.Goals as goal

pub returns : goal.returns
returns c = one_outcome c.one_value.ensures
