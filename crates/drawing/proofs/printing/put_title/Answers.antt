use Rattle.drawing.specs.Xml.{element_text}
use Rattle.tor_io.proofs.Putting.{puts_then}
use Rattle.drawing.proofs.printing.put_title.Goals as goal

pub returns : goal.returns
unfolding element_text
returns g c = puts_then c.put.ensures (puts_then c.put_words.ensures c.put-2.ensures)
