use Rattle.relationships.proofs.Ranks
use Rattle.relationships.proofs.laws.components.rank_law.Goals as goal

pub returns : goal.returns
returns c = Ranks.rank_law
