use Rattle.asks.proofs.Forcings
use Rattle.asks.proofs.laws.ask_closure_law.Goals as goal

pub returns : goal.returns
returns c = Forcings.ask_closure_law c.forced_by_law.ensures
