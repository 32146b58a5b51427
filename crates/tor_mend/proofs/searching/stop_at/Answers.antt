use Rattle.std.proofs.Common.{refl}
use Rattle.tor_mend.proofs.searching.stop_at.Goals as goal

pub returns-in-Some : goal.returns-in-Some
returns-in-Some c = (refl, (c.in-Some.field-0, c.in-Some.ensures.part))
