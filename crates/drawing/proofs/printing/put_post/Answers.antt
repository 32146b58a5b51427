use Rattle.std.proofs.Common.{◌∷◌, ◌∙◌, ap, codes, sym}
use Rattle.std.proofs.lemmas.List.{append-nil}
use Rattle.tor_io.proofs.Putting.{puts_as, puts_then}
use Rattle.drawing.specs.Svg.{box_attributes, box_name, entry_texts, frame, box_lead, post_title, title}
use Rattle.drawing.specs.Xml.{elements_text, tag_end, tag_text}
use Rattle.drawing.proofs.printing.put_post.Goals as goal

pub returns : goal.returns
returns g c =
    let q = c.args.post.now in
    let link = c.args.link.now in
    let number = c.entry_number-number.ensures in
    let first = puts_as c.put_box_start.ensures (ap (λ n. tag_text (box_name (box_lead link n)) (box_attributes (box_lead link n))) number) in
    let dashed = ap (λ w. elements_text (title (post_title q.entry) ∷ frame q.at (codes "d") w ∷ entry_texts q.at q.entry)) c.post_dashes.ensures in
    let last = puts_as c.put.ensures (c.box_end.ensures ∙ ap (λ n. tag_end (box_name (box_lead link n))) number) in
    puts_as (puts_then first (puts_then (puts_as c.put_inside.ensures dashed) last)) (sym (append-nil _))
