use Rattle.as_ranks.proofs.LawLemmas.{unreal}
use Rattle.as_ranks.proofs.laws.unreal_transit_law.Goals as goal

pub returns : goal.returns
returns c = unreal
