use Rattle.drawing.specs.Xml.{attribute_text}
use Rattle.tor_io.proofs.Putting.{puts_then}
use Rattle.drawing.proofs.printing.put_start.Goals as goal

pub returns : goal.returns
unfolding attribute_text
returns g c = puts_then c.put.ensures (puts_then c.put_quoted.ensures (puts_then c.put_quoted-2.ensures (puts_then c.put_extent.ensures c.put-2.ensures)))
