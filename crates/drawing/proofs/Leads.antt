-- Whatever leads somewhere in a picture is the box of an AS, and leads where the link says.
use Rattle.std.proofs.Common.{◌≡◌, ℕ, ◌+◌, inl, inr, Bool, true, false, List, [], ◌∷◌, get_or, refl, All}
use Rattle.std.specs.Prelude.{Option, Some, None, IsTrue, codes, not, ◌&&◌}
use Rattle.std.proofs.lemmas.Bool.{and_parts}
use Rattle.std.proofs.lemmas.List.Elements.{All-cons, All-nil}
use Rattle.drawing.specs.declared.page.Rect.{Rect}
use Rattle.drawing.specs.declared.drawing.BoxEntry.{BoxEntry}
use Rattle.drawing.specs.declared.drawing.BoxEntry.TheVariants as entry
use Rattle.drawing.specs.declared.drawing.Drawing.{Drawing}
use Rattle.drawing.specs.declared.printing.Words.TheVariants as words
use Rattle.drawing.specs.Page.{line_points}
use Rattle.drawing.specs.Xml.{Element, Node, SvgAttribute, leaf}
use Rattle.drawing.specs.Svg.{IsBoxOf, IsBoxLink, ShowsLinks, address, all_words, as_words, node_attributes, all_attributes, band_class, band_nodes, box_node, caption_words}
use Rattle.drawing.specs.Svg.{centre_frame, centre_node, centre_texts, class_of, dashes, entry_class, entry_number, entry_texts, entry_title, frame, head_nodes, heading_words, item_box}
use Rattle.drawing.specs.Svg.{item_frame, item_nodes, box_lead, leads, link_element, link_nodes, part_words, polyline, post_box, post_dashes, post_frame, post_nodes, post_title, rect_with}
use Rattle.drawing.specs.Svg.{style_words, text_at, title, word_of, words_text}
use Rattle.drawing.proofs.Nodes.{of_all, one_there}

-- ---- what leads nowhere

abbrev none_leads : List SvgAttribute → Bool
none_leads [] = true
none_leads (a ∷ attributes) = not (leads a) && none_leads attributes

still : (P : SvgAttribute → Type 0) (attributes : List SvgAttribute) → none_leads attributes ≡ true → All (λ a. IsTrue (leads a) → P a) attributes
still P [] e = All-nil (λ a. IsTrue (leads a) → P a)
still P (a ∷ attributes) e =
    let parts = and_parts (not (leads a)) (none_leads attributes) e in
    All-cons (λ a. IsTrue (leads a) → P a) a attributes (λ h. absurd (not_both (leads a) parts.0 h)) (still P attributes parts.1)
  where
    not_both : (b : Bool) → not b ≡ true → b ≡ true → ⊥
    not_both true e f = cc
    not_both false e f = cc

-- a box has no attribute that leads somewhere but its own
box_still : (words class dashed : List ℕ) (b at : Rect) (e : BoxEntry) →
    none_leads (all_attributes (title words ∷ frame b class dashed ∷ entry_texts at e)) ≡ true
box_still words class dashed b at (entry.One n) = refl
box_still words class dashed b at (entry.More n) = refl

-- ---- what leads somewhere

module _ (link : Option (List ℕ)) (d : Drawing) where
  abbrev Led : Node → Type 0
  Led n = All (λ a. IsTrue (leads a) → IsBoxLink link d n a.value) (node_attributes n)

  leaf_led : (e : Element) → none_leads e.attributes ≡ true → Led (leaf e)
  leaf_led e none = still (λ a. IsBoxLink link d (leaf e) a.value) e.attributes none

-- a box that is that of its AS
box_led : (link : Option (List ℕ)) (d : Drawing) (number : Option ℕ) (words : List ℕ) (framed : Element) (texts : List Element) →
    ((a : ℕ) → number ≡ Some a → IsBoxOf link d a (box_node (box_lead link number) words framed texts)) → none_leads (all_attributes (title words ∷ framed ∷ texts)) ≡ true →
    Led link d (box_node (box_lead link number) words framed texts)
box_led None d number words framed texts box none =
    still (λ a. IsBoxLink None d (box_node None words framed texts) a.value) (all_attributes (title words ∷ framed ∷ texts)) none
box_led (Some l) d None words framed texts box none =
    still (λ a. IsBoxLink (Some l) d (box_node None words framed texts) a.value) (all_attributes (title words ∷ framed ∷ texts)) none
box_led (Some l) d (Some a) words framed texts box none =
    let n = box_node (Some (address l a)) words framed texts in
    All-cons (λ x. IsTrue (leads x) → IsBoxLink (Some l) d n x.value) (word_of (codes "href") (address l a)) (all_attributes (title words ∷ framed ∷ texts))
    (λ h. record { asked = l; is_asked = refl; number = a; box = box a refl; is = refl })
    (still (λ x. IsBoxLink (Some l) d n x.value) (all_attributes (title words ∷ framed ∷ texts)) none)

module _ (link : Option (List ℕ)) (d : Drawing) where
  abbrev Here : Node → Type 0
  Here n = Led link d n

  one_led : (n : Node) → Here n → All Here (n ∷ [])
  one_led n h = All-cons Here n [] h (All-nil Here)

  items_led : All (λ i. All Here (item_nodes link i)) d.items
  items_led k x lt =
      let i = get_or d.items k x in
      let rail = polyline (line_points i.line) (class_of (codes "r") ∷ []) in
      let box = box_led link d (entry_number i.entry) (entry_title i.group i.entry) (item_frame i) (entry_texts i.at i.entry)
      (λ a is. inr (inl (one_there (λ j. (entry_number j.entry ≡ Some a) × (item_box link i ≡ item_box link j)) d.items k x lt (is, refl))))
      (box_still (entry_title i.group i.entry) (entry_class i.entry) (dashes i.entry) i.at i.at i.entry) in
      All-cons Here (leaf rail) (item_box link i ∷ []) (leaf_led link d rail refl) (one_led (item_box link i) box)

  posts_led : All (λ q. All Here (post_nodes link q)) d.posts
  posts_led k x lt =
      let q = get_or d.posts k x in
      one_led (post_box link q) (box_led link d (entry_number q.entry) (post_title q.entry) (post_frame q) (entry_texts q.at q.entry)
      (λ a is. inr (inr (one_there (λ j. (entry_number j.entry ≡ Some a) × (post_box link q ≡ post_box link j)) d.posts k x lt (is, refl))))
      (box_still (post_title q.entry) (codes "d") (post_dashes q.entry) q.at q.at q.entry))

  links_led : All (λ l. All Here (link_nodes l)) d.links
  links_led k x lt = let l = get_or d.links k x in one_led (leaf (link_element l)) (leaf_led link d (link_element l) refl)

  bands_led : All (λ b. All Here (band_nodes b)) d.bands
  bands_led k x lt =
      let b = get_or d.bands k x in
      let plane = rect_with b.at (class_of (band_class b.group) ∷ []) in
      let heading = text_at 16 (b.at.y + 20) (codes "b") (heading_words b.group) in
      let all = text_at 16 (b.at.y + 36) (codes "s") (all_words b.all) in
      let some = text_at 16 (b.at.y + 50) (codes "s") (part_words b.part) in
      All-cons Here (leaf plane) (leaf heading ∷ leaf all ∷ leaf some ∷ []) (leaf_led link d plane refl)
      (All-cons Here (leaf heading) (leaf all ∷ leaf some ∷ []) (leaf_led link d heading refl)
      (All-cons Here (leaf all) (leaf some ∷ []) (leaf_led link d all refl) (one_led (leaf some) (leaf_led link d some refl))))

  head_led : All Here (head_nodes d)
  head_led =
      let named = title (caption_words d.asked d.counts) in
      let style : Element = record { name = codes "style"; attributes = []; inner = Some style_words } in
      let number = text_at 16 28 (codes "t") (as_words d.asked) in
      let solid = text_at 16 46 (codes "l") (words_text words.Solid) in
      let dashed = text_at 16 60 (codes "l") (words_text words.Dashed) in
      All-cons Here (leaf named) (leaf style ∷ leaf number ∷ leaf solid ∷ leaf dashed ∷ []) (leaf_led link d named refl)
      (All-cons Here (leaf style) (leaf number ∷ leaf solid ∷ leaf dashed ∷ []) (leaf_led link d style refl)
      (All-cons Here (leaf number) (leaf solid ∷ leaf dashed ∷ []) (leaf_led link d number refl)
      (All-cons Here (leaf solid) (leaf dashed ∷ []) (leaf_led link d solid refl) (one_led (leaf dashed) (leaf_led link d dashed refl)))))

  centre_led : Here (centre_node link d)
  centre_led =
      box_led link d (Some d.asked) (as_words d.asked) (centre_frame d) (centre_texts d)
      (λ a is. inl (cc, refl)) refl

pub picture_shows_links : (link : Option (List ℕ)) (d : Drawing) → ShowsLinks link d
picture_shows_links link d = of_all (Led link d) link d (record {
  head = head_led link d;
  bands = bands_led link d;
  centre = centre_led link d;
  items = items_led link d;
  links = links_led link d;
  posts = posts_led link d;
})
