use Rattle.std.proofs.Common.{[], ◌∷◌, ◌++◌, append_assoc, codes, ap, sym}
use Rattle.tor_io.proofs.Putting.{puts_as, puts_then}
use Rattle.drawing.specs.Page.{line_points}
use Rattle.drawing.specs.Svg.{points}
use Rattle.drawing.specs.Xml.{attribute_text, element_text}
use Rattle.drawing.proofs.printing.put_rail.Goals as goal

pub returns : goal.returns
unfolding attribute_text element_text
returns g c =
    puts_as (puts_then c.put.ensures (puts_then c.put_line_points.ensures c.put-2.ensures))
    (sym (ap (λ t. codes "<polyline points=\"" ++ t) (append_assoc (points (line_points c.args.line.now)) (34 ∷ []) (codes " class=\"r\"/>\n"))))
