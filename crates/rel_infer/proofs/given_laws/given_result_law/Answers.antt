use Rattle.rel_infer.proofs.OneGivenResult
use Rattle.rel_infer.proofs.given_laws.given_result_law.Goals as goal

pub returns : goal.returns
returns c = OneGivenResult.given_result_law
