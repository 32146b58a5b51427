use Rattle.rib_bodies.proofs.ValueEncodings.{named_peers_law}
use Rattle.rib_bodies.proofs.laws.named_peers_law.Goals as goal

pub returns : goal.returns
returns c = named_peers_law
