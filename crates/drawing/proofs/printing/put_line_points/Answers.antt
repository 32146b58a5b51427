use Rattle.std.proofs.Common.{sym}
use Rattle.std.proofs.lemmas.List.{append-nil}
use Rattle.drawing.specs.Svg.{points}
use Rattle.tor_io.proofs.Putting.{puts_as, puts_then}
use Rattle.drawing.proofs.printing.put_line_points.Goals as goal

pub returns : goal.returns
unfolding points
returns g c = puts_then c.put_point.ensures (puts_then c.put_point-2.ensures (puts_then c.put_point-3.ensures (puts_then c.put_point-4.ensures (puts_as c.put_point-5.ensures (sym (append-nil _))))))
