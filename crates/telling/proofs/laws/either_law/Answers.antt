use Rattle.telling.proofs.EitherLemmas
use Rattle.telling.proofs.laws.either_law.Goals as goal

pub returns : goal.returns
returns c = EitherLemmas.either_law
