use Rattle.asks.proofs.Forcings
use Rattle.asks.proofs.laws.forced_by_law.Goals as goal

pub returns : goal.returns
returns c = Forcings.forced_by_law c.decided_law.ensures c.implication_law.ensures
