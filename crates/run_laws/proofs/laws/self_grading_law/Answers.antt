use Rattle.run_laws.proofs.SelfGradings.{self_grading}
use Rattle.run_laws.proofs.laws.self_grading_law.Goals as goal

pub returns : goal.returns
returns c = self_grading c.bounds_law.ensures
