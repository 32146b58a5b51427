use Rattle.rib_bodies.proofs.RibEncodings
use Rattle.rib_bodies.proofs.laws.rib_law.Goals as goal

pub returns : goal.returns
returns c = RibEncodings.rib_law
