use Rattle.tor_io.proofs.Putting.{puts_then}
use Rattle.drawing.proofs.printing.put_three.Goals as goal

pub returns : goal.returns
returns g c = puts_then c.put_byte.ensures (puts_then c.put_byte-2.ensures (puts_then c.put_byte-3.ensures c.put_byte-4.ensures))
