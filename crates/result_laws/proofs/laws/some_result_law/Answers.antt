use Rattle.result_laws.proofs.SomeResults
use Rattle.result_laws.proofs.laws.some_result_law.Goals as goal

pub returns : goal.returns
returns c = SomeResults.some_result_law
