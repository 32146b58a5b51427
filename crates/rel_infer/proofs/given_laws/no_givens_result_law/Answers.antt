use Rattle.std.proofs.Common.{[]}
use Rattle.rel_infer.proofs.Ungiven.{inferred_alone, inferred_too, result_alone, result_too, alone_none_left, none_left_too}
use Rattle.rel_infer.proofs.given_laws.no_givens_result_law.Goals as goal

pub returns : goal.returns
returns c = (
  λ ratio paths walks lines whys probes. (inferred_alone ratio paths walks lines whys probes, inferred_too ratio paths walks lines whys probes),
  λ sets ratio rows counts file. (result_alone sets ratio rows counts file, result_too sets ratio rows counts file),
  λ ratio paths walks lines. (alone_none_left ratio paths walks lines [] [], none_left_too ratio paths walks lines [] []),
)
