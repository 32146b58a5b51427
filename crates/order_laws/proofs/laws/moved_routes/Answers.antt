use Rattle.order_laws.proofs.RouteOrders.{moved_law}
use Rattle.order_laws.proofs.laws.moved_routes.Goals as goal

pub returns : goal.returns
returns c = moved_law
