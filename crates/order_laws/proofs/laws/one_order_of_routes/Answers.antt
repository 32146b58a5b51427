use Rattle.order_laws.proofs.RouteOrders.{one_order_law}
use Rattle.order_laws.proofs.laws.one_order_of_routes.Goals as goal

pub returns : goal.returns
returns c = one_order_law
