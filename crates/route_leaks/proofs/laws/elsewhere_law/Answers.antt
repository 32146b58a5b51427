use Rattle.route_leaks.proofs.Explaining.{elsewhere_law}
use Rattle.route_leaks.proofs.laws.elsewhere_law.Goals as goal

pub returns : goal.returns
returns c = elsewhere_law
