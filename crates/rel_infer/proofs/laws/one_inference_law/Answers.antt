use Rattle.rel_infer.proofs.OneResult
use Rattle.rel_infer.proofs.laws.one_inference_law.Goals as goal

pub returns : goal.returns
returns c = OneResult.one_inference_law
