use Rattle.torcheck_run.proofs.Comings.{one_verdict}
use Rattle.torcheck_run.proofs.laws.one_file_verdict_law.Goals as goal

pub returns : goal.returns
returns c = one_verdict c.one_value.ensures
