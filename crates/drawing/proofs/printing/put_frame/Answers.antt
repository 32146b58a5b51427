use Rattle.drawing.specs.Xml.{attribute_text, element_text}
use Rattle.tor_io.proofs.Putting.{puts_then}
use Rattle.drawing.proofs.printing.put_frame.Goals as goal

pub returns : goal.returns
unfolding attribute_text element_text
returns g c = puts_then c.put_quoted.ensures (puts_then c.put_quoted-2.ensures (puts_then c.put_quoted-3.ensures (puts_then c.put_quoted-4.ensures (puts_then c.put_class.ensures (puts_then c.put_dashes.ensures c.put.ensures)))))
