use Rattle.tor_io.proofs.Putting.{puts_then}
use Rattle.drawing.proofs.printing.put_inside.Goals as goal

pub returns : goal.returns
returns g c = puts_then c.put_title.ensures (puts_then c.put_frame.ensures c.put_entry_texts.ensures)
