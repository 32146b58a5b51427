use Rattle.tor_io.proofs.Putting.{puts_as, puts_then}
use Rattle.drawing.proofs.printing.put_centre.Goals as goal

pub returns : goal.returns
returns g c = puts_then c.put_box_start.ensures (puts_then c.put_centre_inside.ensures (puts_as c.put.ensures c.box_end.ensures))
