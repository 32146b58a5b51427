use Rattle.run_laws.proofs.GrowingRuns as lemmas
use Rattle.run_laws.proofs.laws.some_faithful_law.Goals as goal

pub returns : goal.returns
returns c = lemmas.some_faithful_law c.faithful_law.ensures.table c.some_result_law.ensures
