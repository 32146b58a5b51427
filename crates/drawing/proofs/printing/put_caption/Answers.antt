use Rattle.tor_io.proofs.Putting.{puts_then}
use Rattle.drawing.proofs.printing.put_caption.Goals as goal

pub returns : goal.returns
returns g c = puts_then c.put_as.ensures (puts_then c.put.ensures (puts_then c.put_tally.ensures (puts_then c.put-2.ensures (puts_then c.put_tally-2.ensures (puts_then c.put-3.ensures c.put_tally-3.ensures)))))
