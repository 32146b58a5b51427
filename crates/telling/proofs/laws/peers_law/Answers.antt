use Rattle.telling.proofs.EitherLemmas
use Rattle.telling.proofs.laws.peers_law.Goals as goal

pub returns : goal.returns
returns c = EitherLemmas.peers_law
