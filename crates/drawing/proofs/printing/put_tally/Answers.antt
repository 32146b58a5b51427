use Rattle.tor_io.proofs.Putting.{puts_as, puts_then}
use Rattle.drawing.proofs.printing.put_tally.Goals as goal

pub returns : goal.returns
returns g c = puts_then c.put_thousands.ensures (puts_then c.put.ensures (puts_then (puts_as c.put-2.ensures c.ending.ensures) (puts_then c.put-3.ensures (puts_then c.put_thousands-2.ensures c.put-4.ensures))))
