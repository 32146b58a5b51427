use Rattle.relationships.proofs.Ranks
use Rattle.relationships.proofs.laws.components.cycle_law.Goals as goal

pub returns : goal.returns
returns c = Ranks.cycle_law
