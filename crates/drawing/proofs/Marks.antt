-- Whatever is solid and dark in a picture belongs to a forced edge, or is the frame of the centre.
use Rattle.std.proofs.Common.{◌≡◌, ℕ, ◌+◌, inl, inr, true, false, List, [], ◌∷◌, get_or, refl, sym, ◌∙◌, All}
use Rattle.std.specs.Prelude.{IsTrue, codes, Option, Some}
use Rattle.std.proofs.lemmas.List.Elements.{All-cons, All-nil}
use Rattle.relationships.specs.declared.mark.Mark.{Mark}
use Rattle.relationships.specs.declared.mark.Mark.TheVariants as mark
use Rattle.drawing.specs.declared.group.Group.{Group}
use Rattle.drawing.specs.declared.page.Rect.{Rect}
use Rattle.drawing.specs.declared.drawing.BoxEntry.{BoxEntry}
use Rattle.drawing.specs.declared.drawing.BoxEntry.TheVariants as entry
use Rattle.drawing.specs.declared.drawing.Drawing.{Drawing}
use Rattle.drawing.specs.declared.printing.Words.TheVariants as words
use Rattle.drawing.specs.Page.{line_points, slant_points}
use Rattle.drawing.specs.Xml.{Element, Node, leaf}
use Rattle.drawing.specs.Svg.{IsOfForced, ShowsMarks, all_words, as_words, band_class, band_nodes, box_node, caption_words, centre_frame, centre_node, class_of, dashes, elements_in}
use Rattle.drawing.specs.Svg.{entry_class, entry_texts, entry_title, frame, head_nodes, heading_words, is_forced_entry, is_solid, item_frame, item_nodes, left_words, link_element, link_nodes}
use Rattle.drawing.specs.Svg.{mark_class, mark_dashes, part_words, paths_words, polyline, box_lead, entry_number, item_box, post_box, post_frame, post_nodes, post_title, rect_with, style_words, text_at, title, word_of, words_text}
use Rattle.drawing.proofs.Nodes.{of_all, one_there}

no_truth : {X : Type 0} → false ≡ true → X
no_truth e = absurd (not_both e)
  where
    not_both : false ≡ true → ⊥
    not_both e = cc

-- what holds of an element, and of those of a node, if there is something solid and dark
abbrev Sh : Drawing → Element → Type 0
Sh d e = IsTrue (is_solid e) → IsOfForced d e

abbrev Shown : Drawing → Node → Type 0
Shown d n = All (Sh d) (elements_in n)

pale : (d : Drawing) (e : Element) → is_solid e ≡ false → Sh d e
pale d e f h = no_truth (sym f ∙ h)

leaf_shown : (d : Drawing) (e : Element) → Sh d e → Shown d (leaf e)
leaf_shown d e h = All-cons (Sh d) e [] h (All-nil (Sh d))

box_shown : (d : Drawing) (to : Option (List ℕ)) (words : List ℕ) (framed : Element) (texts : List Element) → Sh d framed → All (Sh d) texts → Shown d (box_node to words framed texts)
box_shown d to words framed texts f t = All-cons (Sh d) (title words) (framed ∷ texts) (pale d (title words) refl) (All-cons (Sh d) framed texts f t)

-- ---- one frame and one line

forced_mark : (b : Rect) (m : Mark) → IsTrue (is_solid (frame b (mark_class m) (mark_dashes m))) → m ≡ mark.Forced
forced_mark b mark.Forced h = refl
forced_mark b mark.Open h = no_truth h

forced_entry : (b : Rect) (e : BoxEntry) → IsTrue (is_solid (frame b (entry_class e) (dashes e))) → is_forced_entry e
forced_entry b (entry.One n) h = forced_mark b n.mark h
forced_entry b (entry.More n) h = no_truth h

forced_line : (l : List (ℕ × ℕ)) (m : Mark) →
    IsTrue (is_solid (polyline l (class_of (mark_class m) ∷ word_of (codes "stroke-dasharray") (mark_dashes m) ∷ []))) → m ≡ mark.Forced
forced_line l mark.Forced h = refl
forced_line l mark.Open h = no_truth h

-- texts are not
texts_shown : (d : Drawing) (b : Rect) (e : BoxEntry) → All (Sh d) (entry_texts b e)
texts_shown d b (entry.One n) =
    let number = text_at (b.x + 44) (b.y + 14) (codes "m") (as_words n.number) in
    let paths = text_at (b.x + 44) (b.y + 26) (codes "m s") (paths_words n.support) in
    All-cons (Sh d) number (paths ∷ []) (pale d number refl) (leaf_shown d paths (pale d paths refl))
texts_shown d b (entry.More n) = let left = text_at (b.x + 44) (b.y + 20) (codes "m") (left_words n) in leaf_shown d left (pale d left refl)

-- ---- all of them

item_shown : (link : Option (List ℕ)) (d : Drawing) → All (λ i. All (Shown d) (item_nodes link i)) d.items
item_shown link d k x lt =
    let i = get_or d.items k x in
    let rail = polyline (line_points i.line) (class_of (codes "r") ∷ []) in
    let words = entry_title i.group i.entry in
    let texts = entry_texts i.at i.entry in
    All-cons (Shown d) (leaf rail) (item_box link i ∷ []) (leaf_shown d rail (pale d rail refl))
    (All-cons (Shown d) (item_box link i) []
    (box_shown d (box_lead link (entry_number i.entry)) words (item_frame i) texts
    (λ h. inl (one_there (λ j. is_forced_entry j.entry × (item_frame i ≡ item_frame j)) d.items k x lt (forced_entry i.at i.entry h, refl))) (texts_shown d i.at i.entry))
    (All-nil (Shown d)))

link_shown : (d : Drawing) → All (λ l. All (Shown d) (link_nodes l)) d.links
link_shown d k x lt =
    let l = get_or d.links k x in
    All-cons (Shown d) (leaf (link_element l)) [] (leaf_shown d (link_element l)
    (λ h. inr (inl (one_there (λ j. (j.mark ≡ mark.Forced) × (link_element l ≡ link_element j)) d.links k x lt (forced_line (slant_points l.line) l.mark h, refl)))))
    (All-nil (Shown d))

post_shown : (link : Option (List ℕ)) (d : Drawing) → All (λ q. All (Shown d) (post_nodes link q)) d.posts
post_shown link d k x lt =
    let q = get_or d.posts k x in
    All-cons (Shown d) (post_box link q) []
    (box_shown d (box_lead link (entry_number q.entry)) (post_title q.entry) (post_frame q) (entry_texts q.at q.entry) (pale d (post_frame q) refl)
    (texts_shown d q.at q.entry)) (All-nil (Shown d))

pale_band : (b : Rect) (g : Group) → is_solid (rect_with b (class_of (band_class g) ∷ [])) ≡ false
pale_band b Group.Providers = refl
pale_band b Group.Peers = refl
pale_band b Group.Customers = refl

band_shown : (d : Drawing) → All (λ b. All (Shown d) (band_nodes b)) d.bands
band_shown d k x lt =
    let b = get_or d.bands k x in
    let plane = rect_with b.at (class_of (band_class b.group) ∷ []) in
    let heading = text_at 16 (b.at.y + 20) (codes "b") (heading_words b.group) in
    let all = text_at 16 (b.at.y + 36) (codes "s") (all_words b.all) in
    let some = text_at 16 (b.at.y + 50) (codes "s") (part_words b.part) in
    All-cons (Shown d) (leaf plane) (leaf heading ∷ leaf all ∷ leaf some ∷ []) (leaf_shown d plane (pale d plane (pale_band b.at b.group)))
    (All-cons (Shown d) (leaf heading) (leaf all ∷ leaf some ∷ []) (leaf_shown d heading (pale d heading refl))
    (All-cons (Shown d) (leaf all) (leaf some ∷ []) (leaf_shown d all (pale d all refl))
    (All-cons (Shown d) (leaf some) [] (leaf_shown d some (pale d some refl)) (All-nil (Shown d)))))

head_shown : (d : Drawing) → All (Shown d) (head_nodes d)
head_shown d =
    let named = title (caption_words d.asked d.counts) in
    let style : Element = record { name = codes "style"; attributes = []; inner = Some style_words } in
    let number = text_at 16 28 (codes "t") (as_words d.asked) in
    let solid = text_at 16 46 (codes "l") (words_text words.Solid) in
    let dashed = text_at 16 60 (codes "l") (words_text words.Dashed) in
    All-cons (Shown d) (leaf named) (leaf style ∷ leaf number ∷ leaf solid ∷ leaf dashed ∷ []) (leaf_shown d named (pale d named refl))
    (All-cons (Shown d) (leaf style) (leaf number ∷ leaf solid ∷ leaf dashed ∷ []) (leaf_shown d style (pale d style refl))
    (All-cons (Shown d) (leaf number) (leaf solid ∷ leaf dashed ∷ []) (leaf_shown d number (pale d number refl))
    (All-cons (Shown d) (leaf solid) (leaf dashed ∷ []) (leaf_shown d solid (pale d solid refl))
    (All-cons (Shown d) (leaf dashed) [] (leaf_shown d dashed (pale d dashed refl)) (All-nil (Shown d))))))

centre_shown : (link : Option (List ℕ)) (d : Drawing) → Shown d (centre_node link d)
centre_shown link d =
    let number = text_at (d.centre.x + 60) (d.centre.y + 20) (codes "m b") (as_words d.asked) in
    box_shown d (box_lead link (Some d.asked)) (as_words d.asked) (centre_frame d) (number ∷ []) (λ h. inr (inr refl)) (leaf_shown d number (pale d number refl))

pub picture_shows_marks : (link : Option (List ℕ)) (d : Drawing) → ShowsMarks link d
picture_shows_marks link d = of_all (Shown d) link d (record {
  head = head_shown d;
  bands = band_shown d;
  centre = centre_shown link d;
  items = item_shown link d;
  links = link_shown d;
  posts = post_shown link d;
})
