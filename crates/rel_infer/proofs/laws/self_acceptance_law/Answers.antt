use Rattle.rel_infer.proofs.SelfAcceptance.{self_acceptance}
use Rattle.rel_infer.proofs.laws.self_acceptance_law.Goals as goal

pub returns : goal.returns
returns c = self_acceptance c.acceptance_law.ensures
