use Rattle.std.proofs.Common.{[], ◌∷◌, ◌++◌, ◌∙◌, append_assoc, ap, codes, sym}
use Rattle.std.proofs.lemmas.List.{append-nil}
use Rattle.tor_io.proofs.Putting.{puts_as, puts_then}
use Rattle.drawing.specs.Page.{slant_points}
use Rattle.drawing.specs.Svg.{class_of, points, word_of}
use Rattle.drawing.specs.Xml.{attribute_text, element_text}
use Rattle.drawing.proofs.printing.put_link.Goals as goal

pub returns : goal.returns
unfolding attribute_text element_text
returns g c =
    let class = puts_as c.put_class.ensures (ap (λ w. attribute_text (class_of w)) c.mark_class.ensures) in
    let dashed = puts_as c.put_dashes.ensures (ap (λ w. attribute_text (word_of (codes "stroke-dasharray") w)) c.mark_dashes.ensures) in
    puts_as (puts_then c.put.ensures (puts_then c.put_slant_points.ensures (puts_then c.put_byte.ensures (puts_then class (puts_then dashed c.put-2.ensures)))))
    (sym (ap (λ t. codes "<polyline points=\"" ++ t) (append_assoc (points (slant_points c.args.link.now.line)) (34 ∷ []) _)) ∙ sym (append-nil _))
