use Rattle.result_laws.proofs.SomeResults
use Rattle.result_laws.proofs.laws.some_resumed_law.Goals as goal

pub returns : goal.returns
returns c = SomeResults.some_resumed_law
