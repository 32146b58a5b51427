use Rattle.std.proofs.Common.{[], ◌∷◌, ap, sym}
use Rattle.std.proofs.lemmas.List.{append-nil}
use Rattle.tor_io.proofs.Putting.{puts_as, puts_then}
use Rattle.drawing.specs.Svg.{class_of, rect_with}
use Rattle.drawing.specs.Xml.{element_text}
use Rattle.drawing.proofs.printing.put_band.Goals as goal

pub returns : goal.returns
returns g c =
    let plane = puts_as c.put_plane.ensures (ap (λ w. element_text (rect_with c.args.band.now.at (class_of w ∷ []))) c.band_class.ensures) in
    puts_then plane (puts_then c.put_text.ensures (puts_then c.put_text-2.ensures (puts_as c.put_text-3.ensures (sym (append-nil _)))))
