use Rattle.asks.proofs.Forcings
use Rattle.asks.proofs.laws.agreeing_asks_law.Goals as goal

pub returns : goal.returns
returns c = Forcings.agreeing_asks_law
