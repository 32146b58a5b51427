use Rattle.order_laws.proofs.RouteOrders.{fit_law, taken_law}
use Rattle.order_laws.proofs.laws.limits_together.Goals as goal

pub returns-clause-fit : goal.returns-clause-fit
returns-clause-fit c = fit_law

pub returns-clause-taken : goal.returns-clause-taken
returns-clause-taken c = taken_law
