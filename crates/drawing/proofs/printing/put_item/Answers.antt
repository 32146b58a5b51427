use Rattle.std.proofs.Common.{◌∷◌, ◌∙◌, ap, sym}
use Rattle.std.proofs.lemmas.List.{append-nil}
use Rattle.tor_io.proofs.Putting.{puts_as, puts_then}
use Rattle.drawing.specs.Svg.{box_attributes, box_name, entry_class, entry_texts, entry_title, frame, box_lead, title}
use Rattle.drawing.specs.Xml.{elements_text, tag_end, tag_text}
use Rattle.drawing.proofs.printing.put_item.Goals as goal

pub returns : goal.returns
returns g c =
    let i = c.args.item.now in
    let link = c.args.link.now in
    let number = c.entry_number-number.ensures in
    let first = puts_as c.put_box_start.ensures (ap (λ n. tag_text (box_name (box_lead link n)) (box_attributes (box_lead link n))) number) in
    let class = ap (λ w. elements_text (title (entry_title i.group i.entry) ∷ frame i.at w c.dashes.result.now ∷ entry_texts i.at i.entry)) c.entry_class.ensures in
    let dashed = ap (λ w. elements_text (title (entry_title i.group i.entry) ∷ frame i.at (entry_class i.entry) w ∷ entry_texts i.at i.entry)) c.dashes.ensures in
    let last = puts_as c.put.ensures (c.box_end.ensures ∙ ap (λ n. tag_end (box_name (box_lead link n))) number) in
    let box = puts_then first (puts_then (puts_as c.put_inside.ensures (class ∙ dashed)) last) in
    puts_then c.put_rail.ensures (puts_as box (sym (append-nil _)))
