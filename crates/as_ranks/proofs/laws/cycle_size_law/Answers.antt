use Rattle.as_ranks.proofs.LawLemmas.{three-or-more}
use Rattle.as_ranks.proofs.laws.cycle_size_law.Goals as goal

pub returns : goal.returns
returns c = three-or-more
