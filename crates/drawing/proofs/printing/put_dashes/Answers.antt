use Rattle.std.proofs.Common.{refl}
use Rattle.drawing.specs.Xml.{attribute_text}
use Rattle.tor_io.proofs.Putting.{puts_as}
use Rattle.drawing.proofs.printing.put_dashes.Goals as goal

pub returns : goal.returns
unfolding attribute_text
returns g c = (puts_as c.put_between.ensures refl)
