use Rattle.any_order.proofs.OneVerdicts.{ordered_law}
use Rattle.any_order.proofs.laws.ordered_agrees.Goals as goal

pub returns : goal.returns
returns c = ordered_law
