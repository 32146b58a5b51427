use Rattle.rib_bodies.proofs.PeerEncodings
use Rattle.rib_bodies.proofs.laws.peer_table_law.Goals as goal

pub returns : goal.returns
returns c = PeerEncodings.peer_table_law
