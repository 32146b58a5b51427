use Rattle.as_ranks.proofs.LawLemmas.{ranking}
use Rattle.as_ranks.proofs.laws.ranking_law.Goals as goal

pub returns : goal.returns
returns c = ranking
