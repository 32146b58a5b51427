use Rattle.run_laws.proofs.AcceptedGradings.{accepted_grading}
use Rattle.run_laws.proofs.laws.accepted_grading_law.Goals as goal

pub returns : goal.returns
returns c = accepted_grading
