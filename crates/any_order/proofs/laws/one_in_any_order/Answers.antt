use Rattle.any_order.proofs.OneVerdicts.{one_law}
use Rattle.any_order.proofs.laws.one_in_any_order.Goals as goal

pub returns : goal.returns
returns c = one_law
