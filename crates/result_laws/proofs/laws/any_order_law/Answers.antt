use Rattle.result_laws.proofs.OrderLemmas
use Rattle.result_laws.proofs.laws.any_order_law.Goals as goal

pub returns : goal.returns
returns c = OrderLemmas.any_order_law
