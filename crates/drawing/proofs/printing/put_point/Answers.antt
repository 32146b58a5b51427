use Rattle.drawing.specs.Svg.{point}
use Rattle.tor_io.proofs.Putting.{puts_then}
use Rattle.drawing.proofs.printing.put_point.Goals as goal

pub returns : goal.returns
unfolding point
returns g c = puts_then c.put_number_behind.ensures c.put_number_behind-2.ensures
