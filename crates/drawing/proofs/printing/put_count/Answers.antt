use Rattle.tor_io.proofs.Putting.{puts_then}
use Rattle.drawing.proofs.printing.put_count.Goals as goal

pub returns : goal.returns
returns g c = puts_then c.put_thousands.ensures c.put.ensures
