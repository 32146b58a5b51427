use Rattle.rib_bodies.proofs.ValueEncodings.{origin_law}
use Rattle.rib_bodies.proofs.laws.origin_law.Goals as goal

pub returns : goal.returns
returns c = origin_law
