use Rattle.std.proofs.Common.{◌∷◌, ap, sym}
use Rattle.std.proofs.lemmas.List.{append-nil}
use Rattle.tor_io.proofs.Putting.{puts_as, puts_then}
use Rattle.drawing.specs.Svg.{point, points}
use Rattle.drawing.proofs.printing.put_slant_points.Goals as goal

pub returns : goal.returns
unfolding points
returns g c =
    let second = puts_as c.put_point-2.ensures (ap (λ y. 32 ∷ point c.args.line.now.start_x y) c.saturating_sub.ensures) in
    puts_then c.put_point.ensures (puts_then second (puts_then c.put_point-3.ensures (puts_as c.put_point-4.ensures (sym (append-nil _)))))
