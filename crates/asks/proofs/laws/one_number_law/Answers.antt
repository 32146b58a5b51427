use Rattle.asks.proofs.Uniqueness
use Rattle.asks.proofs.laws.one_number_law.Goals as goal

pub returns : goal.returns
returns c = Uniqueness.one_number_law
