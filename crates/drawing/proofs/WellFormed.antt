-- The text of a picture is well formed.
use Rattle.std.proofs.Common.{◌≡◌, ℕ, zero, suc, ◌+◌, ◌/◌, ◌%◌, ◌<◌, ◌≤◌, Bool, true, false, List, [], ◌∷◌, ◌++◌, length, get_or, take, append_assoc, refl, sym, ap, ◌∙◌, subst, arith}
use Rattle.std.specs.Prelude.{◌==◌, if◌then◌else◌, nat_lt, flat_map, codes, Option, Some, None, IfSome, IsTrue}
use Rattle.std.specs.Fmt.{decimal}
use Rattle.std.specs.List.{AllByRecursion}
use Rattle.std.proofs.Math.Nat.{mod-lt}
use Rattle.std.proofs.lemmas.Grind.{flat_map-append}
use Rattle.std.proofs.lemmas.List.{take_more, append-nil}
use Rattle.std.proofs.lemmas.List.Concat.{flat_map-cons}
use Rattle.relationships.specs.declared.mark.Mark.{Mark}
use Rattle.relationships.specs.declared.mark.Mark.TheVariants as mark
use Rattle.drawing.specs.declared.group.Group.{Group}
use Rattle.drawing.specs.declared.group.Tally.{Tally}
use Rattle.drawing.specs.declared.group.NeighbourCounts.{NeighbourCounts}
use Rattle.drawing.specs.declared.page.Rect.{Rect}
use Rattle.drawing.specs.declared.drawing.Band.{Band}
use Rattle.drawing.specs.declared.drawing.BandPart.{BandPart}
use Rattle.drawing.specs.declared.drawing.BandPart.TheVariants as part
use Rattle.drawing.specs.declared.drawing.BoxEntry.{BoxEntry}
use Rattle.drawing.specs.declared.drawing.BoxEntry.TheVariants as entry
use Rattle.drawing.specs.declared.drawing.Item.{Item}
use Rattle.drawing.specs.declared.drawing.Post.{Post}
use Rattle.drawing.specs.declared.drawing.RisingLine.{RisingLine}
use Rattle.drawing.specs.declared.drawing.Drawing.{Drawing}
use Rattle.drawing.specs.Page.{line_points, slant_points}
use Rattle.drawing.specs.Xml.{Element, Node, is_plain, is_value, ArePlain, IsElement, IsNode, IsDocument, node_text, nodes_text, tag_text}
use Rattle.drawing.specs.Svg.{three_digits, comma_digits, thousands, title, rect_with, frame, point, points, polyline, text_at, mark_class, mark_dashes, entry_class, dashes, post_dashes}
use Rattle.drawing.specs.Svg.{as_words, ending, paths_words, group_words, mark_words, more_words, entry_title, post_title, heading_words, all_words, left_words, part_words, tally_words}
use Rattle.drawing.specs.Svg.{caption_words, entry_texts, box_node, item_nodes, link_element, link_nodes, post_nodes, centre_node, centre_texts, band_class, band_nodes, head_nodes, nodes_of}
use Rattle.drawing.specs.Svg.{CanLead, entry_number, extent_words, box_lead, page_attributes, post_frame, style_words, svg_text}
use Rattle.drawing.proofs.Addresses.{lead_valued, valued}
use Rattle.drawing.proofs.Plain.{plain_append, plain_decimal, plain_either, plain_more}

-- ---- numbers

plain_code : (d : ℕ) → d < 10 → is_plain (48 + d) ≡ true
plain_code zero lt = refl
plain_code (suc zero) lt = refl
plain_code (suc (suc zero)) lt = refl
plain_code (suc (suc (suc zero))) lt = refl
plain_code (suc (suc (suc (suc zero)))) lt = refl
plain_code (suc (suc (suc (suc (suc zero))))) lt = refl
plain_code (suc (suc (suc (suc (suc (suc zero)))))) lt = refl
plain_code (suc (suc (suc (suc (suc (suc (suc zero))))))) lt = refl
plain_code (suc (suc (suc (suc (suc (suc (suc (suc zero)))))))) lt = refl
plain_code (suc (suc (suc (suc (suc (suc (suc (suc (suc zero))))))))) lt = refl
plain_code (suc (suc (suc (suc (suc (suc (suc (suc (suc (suc d)))))))))) lt = absurd (omega arith)

plain_three : (n : ℕ) → n < 1000 → ArePlain (three_digits n)
plain_three n lt =
    let high : n / 100 ≤ 9 = div_below n lt in
    plain_more (48 + n / 100) ((48 + (n / 10) % 10) ∷ (48 + n % 10) ∷ []) (plain_code (n / 100) (omega (arith, high)))
    (plain_more (48 + (n / 10) % 10) ((48 + n % 10) ∷ []) (plain_code ((n / 10) % 10) (mod-lt (n / 10) (omega arith)))
    (plain_more (48 + n % 10) [] (plain_code (n % 10) (mod-lt n (omega arith))) refl))
  where
    div_below : (n : ℕ) → n < 1000 → n / 100 ≤ 9
    div_below n lt = omega arith

plain_commas : (k n : ℕ) → ArePlain (comma_digits k n)
plain_commas zero n = plain_decimal n
plain_commas (suc k) n =
    plain_either (nat_lt n 1000) (decimal n) (comma_digits k (n / 1000) ++ 44 ∷ three_digits (n % 1000)) (plain_decimal n)
    (plain_append (comma_digits k (n / 1000)) (44 ∷ three_digits (n % 1000)) (plain_commas k (n / 1000))
    (plain_more 44 (three_digits (n % 1000)) refl (plain_three (n % 1000) (mod-lt n (omega arith)))))

plain_thousands : (n : ℕ) → ArePlain (thousands n)
unfolding thousands
plain_thousands n = plain_commas 6 n

-- ---- words

plain_point : (x y : ℕ) → ArePlain (point x y)
unfolding point
plain_point x y = plain_append (decimal x) (44 ∷ decimal y) (plain_decimal x) (plain_more 44 (decimal y) refl (plain_decimal y))

plain_points : (ps : List (ℕ × ℕ)) → ArePlain (points ps)
unfolding points
plain_points [] = refl
plain_points (p ∷ ps) = plain_more 32 (point p.0 p.1 ++ points ps) refl (plain_append (point p.0 p.1) (points ps) (plain_point p.0 p.1) (plain_points ps))

plain_mark_dashes : (m : Mark) → ArePlain (mark_dashes m)
plain_mark_dashes mark.Forced = refl
plain_mark_dashes mark.Open = refl

plain_mark_class : (m : Mark) → ArePlain (mark_class m)
plain_mark_class mark.Forced = refl
plain_mark_class mark.Open = refl

plain_dashes : (e : BoxEntry) → ArePlain (dashes e)
plain_dashes (entry.One n) = plain_mark_dashes n.mark
plain_dashes (entry.More n) = refl

plain_class : (e : BoxEntry) → ArePlain (entry_class e)
plain_class (entry.One n) = plain_mark_class n.mark
plain_class (entry.More n) = refl

plain_post_dashes : (e : BoxEntry) → ArePlain (post_dashes e)
plain_post_dashes (entry.One n) = refl
plain_post_dashes (entry.More n) = refl

plain_as : (a : ℕ) → ArePlain (as_words a)
plain_as a = plain_append (codes "AS") (decimal a) refl (plain_decimal a)

plain_word : (is_one : Bool) → ArePlain (if is_one then [] else codes "s")
plain_word true = refl
plain_word false = refl

plain_ending : (n : ℕ) → ArePlain (ending n)
plain_ending n = plain_word (n == 1)

plain_paths : (n : ℕ) → ArePlain (paths_words n)
plain_paths n = plain_append (thousands n) (codes " path" ++ ending n) (plain_thousands n) (plain_append (codes " path") (ending n) refl (plain_ending n))

plain_group : (g : Group) → ArePlain (group_words g)
plain_group Group.Providers = refl
plain_group Group.Peers = refl
plain_group Group.Customers = refl

plain_mark : (m : Mark) → ArePlain (mark_words m)
plain_mark mark.Forced = refl
plain_mark mark.Open = refl

plain_more_of : (n : ℕ) (g : Group) → ArePlain (more_words n g)
plain_more_of n g =
    plain_append (thousands n) (codes " more " ++ (group_words g ++ ending n)) (plain_thousands n)
    (plain_append (codes " more ") (group_words g ++ ending n) refl (plain_append (group_words g) (ending n) (plain_group g) (plain_ending n)))

plain_title : (g : Group) (e : BoxEntry) → ArePlain (entry_title g e)
plain_title g (entry.One n) =
    let paths : List ℕ = codes ", " ++ paths_words n.support in
    let marked : List ℕ = mark_words n.mark ++ paths in
    let grouped : List ℕ = group_words g ++ (codes ", " ++ marked) in
    let plain_marked : ArePlain marked = plain_append (mark_words n.mark) paths (plain_mark n.mark) (plain_append (codes ", ") (paths_words n.support) refl (plain_paths n.support)) in
    let plain_grouped : ArePlain grouped = plain_append (group_words g) (codes ", " ++ marked) (plain_group g) (plain_append (codes ", ") marked refl plain_marked) in
    plain_append (as_words n.number) (codes ", " ++ grouped) (plain_as n.number) (plain_append (codes ", ") grouped refl plain_grouped)
plain_title g (entry.More n) = plain_more_of n g

plain_post_title : (e : BoxEntry) → ArePlain (post_title e)
plain_post_title (entry.One n) =
    plain_append (as_words n.number) (codes ", provider, up to " ++ paths_words n.support) (plain_as n.number)
    (plain_append (codes ", provider, up to ") (paths_words n.support) refl (plain_paths n.support))
plain_post_title (entry.More n) = plain_more_of n Group.Providers

plain_part : (p : BandPart) → ArePlain (part_words p)
plain_part (part.Forced n) = plain_append (thousands n) (codes " forced") (plain_thousands n) refl
plain_part (part.StepsUp n) = plain_append (thousands n) (codes " steps up") (plain_thousands n) refl

plain_tally : (what : List ℕ) (t : Tally) → ArePlain what → ArePlain (tally_words what t)
plain_tally what t plain =
    let last : List ℕ = thousands t.forced ++ codes " forced)" in
    let behind : List ℕ = codes " (" ++ last in
    let back : List ℕ = ending t.all ++ behind in
    let plain_last : ArePlain last = plain_append (thousands t.forced) (codes " forced)") (plain_thousands t.forced) refl in
    let plain_behind : ArePlain behind = plain_append (codes " (") last refl plain_last in
    let plain_back : ArePlain back = plain_append (ending t.all) behind (plain_ending t.all) plain_behind in
    plain_append (thousands t.all) (what ++ back) (plain_thousands t.all) (plain_append what back plain plain_back)

plain_caption : (a : ℕ) (c : NeighbourCounts) → ArePlain (caption_words a c)
plain_caption a c =
    let third : List ℕ = tally_words (codes " customer") c.customers in
    let second : List ℕ = tally_words (codes " peer") c.peers ++ (codes ", " ++ third) in
    let first : List ℕ = tally_words (codes " provider") c.providers ++ (codes ", " ++ second) in
    let plain_second : ArePlain second =
    plain_append (tally_words (codes " peer") c.peers) (codes ", " ++ third) (plain_tally (codes " peer") c.peers refl)
    (plain_append (codes ", ") third refl (plain_tally (codes " customer") c.customers refl)) in
    let plain_first : ArePlain first =
    plain_append (tally_words (codes " provider") c.providers) (codes ", " ++ second) (plain_tally (codes " provider") c.providers refl)
    (plain_append (codes ", ") second refl plain_second) in
    plain_append (as_words a) (codes ": " ++ first) (plain_as a) (plain_append (codes ": ") first refl plain_first)

plain_style : ArePlain style_words
unfolding style_words
plain_style = refl

plain_band : (g : Group) → ArePlain (band_class g)
plain_band Group.Providers = refl
plain_band Group.Peers = refl
plain_band Group.Customers = refl

-- ---- elements

valued_decimal : (n : ℕ) → IsTrue (is_value (decimal n))
valued_decimal n = valued (decimal n) (plain_decimal n)

title_is : (words : List ℕ) → ArePlain words → IsElement (title words)
title_is words plain = record { named = refl; attributes = tt; once = refl; inside = plain }

frame_is : (b : Rect) (class dashed : List ℕ) → ArePlain class → ArePlain dashed → IsElement (frame b class dashed)
frame_is b class dashed plain plain' = record {
  named = refl;
  attributes = ((refl, valued_decimal b.x), ((refl, valued_decimal b.y), ((refl, valued_decimal b.width), ((refl, valued_decimal b.height), ((refl, valued class plain), ((refl, valued dashed plain'), tt))))));
  once = refl;
  inside = tt;
}

plane_is : (b : Rect) (g : Group) → IsElement (rect_with b (record { name = codes "class"; value = band_class g } ∷ []))
plane_is b g = record {
  named = refl;
  attributes = ((refl, valued_decimal b.x), ((refl, valued_decimal b.y), ((refl, valued_decimal b.width), ((refl, valued_decimal b.height), ((refl, valued (band_class g) (plain_band g)), tt)))));
  once = refl;
  inside = tt;
}

text_is : (x y : ℕ) (class words : List ℕ) → ArePlain class → ArePlain words → IsElement (text_at x y class words)
text_is x y class words plain plain' = record {
  named = refl;
  attributes = ((refl, valued_decimal x), ((refl, valued_decimal y), ((refl, valued class plain), tt)));
  once = refl;
  inside = plain';
}

rail_is : (l : List (ℕ × ℕ)) → IsElement (polyline l (record { name = codes "class"; value = codes "r" } ∷ []))
rail_is l = record { named = refl; attributes = ((refl, valued (points l) (plain_points l)), ((refl, refl), tt)); once = refl; inside = tt }

link_is : (l : RisingLine) → IsElement (link_element l)
link_is l = record {
  named = refl;
  attributes = (
    (refl, valued (points (slant_points l.line)) (plain_points (slant_points l.line))),
    ((refl, valued (mark_class l.mark) (plain_mark_class l.mark)), ((refl, valued (mark_dashes l.mark) (plain_mark_dashes l.mark)), tt)),
  );
  once = refl;
  inside = tt;
}

texts_are : (b : Rect) (e : BoxEntry) → AllByRecursion IsElement (entry_texts b e)
texts_are b (entry.One n) = (
  text_is (b.x + 44) (b.y + 14) (codes "m") (as_words n.number) refl (plain_as n.number),
  (text_is (b.x + 44) (b.y + 26) (codes "m s") (paths_words n.support) refl (plain_paths n.support), tt),
)
texts_are b (entry.More n) =
    (text_is (b.x + 44) (b.y + 20) (codes "m") (left_words n) refl (plain_append (thousands n) (codes " more") (plain_thousands n) refl), tt)

box_is : (to : Option (List ℕ)) (words : List ℕ) (framed : Element) (texts : List Element) → IfSome to (λ t. IsTrue (is_value t)) → ArePlain words → IsElement framed
    → AllByRecursion IsElement texts → IsNode (box_node to words framed texts)
box_is None words framed texts leads plain is are = record { named = refl; well_formed = tt; once = refl; each = (title_is words plain, (is, are)) }
box_is (Some t) words framed texts leads plain is are = record { named = refl; well_formed = ((refl, leads), tt); once = refl; each = (title_is words plain, (is, are)) }

all_append : (xs ys : List Node) → AllByRecursion IsNode xs → AllByRecursion IsNode ys → AllByRecursion IsNode (xs ++ ys)
all_append [] ys a b = b
all_append (x ∷ xs) ys (e, a) b = (e, all_append xs ys a b)

all_flat : {X : Type 0} (f : X → List Node) → ((x : X) → AllByRecursion IsNode (f x)) → (xs : List X) → AllByRecursion IsNode (flat_map f xs)
all_flat f each [] = tt
all_flat f each (x ∷ xs) = subst (AllByRecursion IsNode) (sym (flat_map-cons f x xs)) (all_append (f x) (flat_map f xs) (each x) (all_flat f each xs))

item_is : (link : Option (List ℕ)) → CanLead link → (i : Item) → AllByRecursion IsNode (item_nodes link i)
item_is link can i = (
  rail_is (line_points i.line),
  (
    box_is (box_lead link (entry_number i.entry)) (entry_title i.group i.entry) (frame i.at (entry_class i.entry) (dashes i.entry)) (entry_texts i.at i.entry)
        (lead_valued link (entry_number i.entry) can) (plain_title i.group i.entry)
        (frame_is i.at (entry_class i.entry) (dashes i.entry) (plain_class i.entry) (plain_dashes i.entry)) (texts_are i.at i.entry),
    tt,
  ),
)

post_is : (link : Option (List ℕ)) → CanLead link → (q : Post) → AllByRecursion IsNode (post_nodes link q)
post_is link can q = (
  box_is (box_lead link (entry_number q.entry)) (post_title q.entry) (post_frame q) (entry_texts q.at q.entry) (lead_valued link (entry_number q.entry) can) (plain_post_title q.entry)
      (frame_is q.at (codes "d") (post_dashes q.entry) refl (plain_post_dashes q.entry)) (texts_are q.at q.entry),
  tt,
)

band_is : (b : Band) → AllByRecursion IsNode (band_nodes b)
band_is b = (
  plane_is b.at b.group,
  (
    text_is 16 (b.at.y + 20) (codes "b") (heading_words b.group) refl (plain_append (group_words b.group) (codes "s") (plain_group b.group) refl),
    (
      text_is 16 (b.at.y + 36) (codes "s") (all_words b.all) refl (plain_append (thousands b.all) (codes " in all") (plain_thousands b.all) refl),
      (text_is 16 (b.at.y + 50) (codes "s") (part_words b.part) refl (plain_part b.part), tt),
    ),
  ),
)

head_is : (d : Drawing) → AllByRecursion IsNode (head_nodes d)
head_is d = (
  title_is (caption_words d.asked d.counts) (plain_caption d.asked d.counts),
  (
    record { named = refl; attributes = tt; once = refl; inside = plain_style },
    (
      text_is 16 28 (codes "t") (as_words d.asked) refl (plain_as d.asked),
      (text_is 16 46 (codes "l") _ refl refl, (text_is 16 60 (codes "l") _ refl refl, tt)),
    ),
  ),
)

centre_is : (link : Option (List ℕ)) → CanLead link → (d : Drawing) → IsNode (centre_node link d)
centre_is link can d =
    box_is (box_lead link (Some d.asked)) (as_words d.asked) (frame d.centre (codes "k") (codes "none")) (centre_texts d) (lead_valued link (Some d.asked) can) (plain_as d.asked) (frame_is d.centre (codes "k") (codes "none") refl refl)
    (text_is (d.centre.x + 60) (d.centre.y + 20) (codes "m b") (as_words d.asked) refl (plain_as d.asked), tt)

plain_extent : (d : Drawing) → ArePlain (extent_words d)
plain_extent d =
    plain_append (codes "0 0 ") (decimal d.width ++ 32 ∷ decimal d.height) refl
    (plain_append (decimal d.width) (32 ∷ decimal d.height) (plain_decimal d.width) (plain_more 32 (decimal d.height) refl (plain_decimal d.height)))

pub picture_well_formed : (link : Option (List ℕ)) → CanLead link → (d : Drawing) → IsDocument (codes "svg") (svg_text link d)
picture_well_formed link can d = record {
  attributes = page_attributes d;
  nodes = nodes_of link d;
  named = refl;
  well_formed = ((refl, refl), ((refl, valued_decimal d.width), ((refl, valued_decimal d.height), ((refl, valued (extent_words d) (plain_extent d)), tt))));
  once = refl;
  each = all_append (head_nodes d) _ (head_is d) (all_append (flat_map band_nodes d.bands) _ (all_flat band_nodes band_is d.bands) (
    centre_is link can d,
    all_append (flat_map (item_nodes link) d.items) _ (all_flat (item_nodes link) (item_is link can) d.items)
        (all_append (flat_map link_nodes d.links) (flat_map (post_nodes link) d.posts) (all_flat link_nodes (λ l. (link_is l, tt)) d.links)
        (all_flat (post_nodes link) (post_is link can) d.posts)),
  ));
  is = refl;
}

-- ---- the text in parts

nodes_text-append : (xs ys : List Node) → nodes_text (xs ++ ys) ≡ nodes_text xs ++ nodes_text ys
nodes_text-append [] ys = refl
nodes_text-append (x ∷ xs) ys = ap (λ t. node_text x ++ t) (nodes_text-append xs ys) ∙ sym (append_assoc (node_text x) (nodes_text xs) (nodes_text ys))

-- the text of nodes and of others, and then the end
then_text : (xs ys : List Node) (end : List ℕ) → nodes_text (xs ++ ys) ++ end ≡ nodes_text xs ++ (nodes_text ys ++ end)
then_text xs ys end = ap (λ t. t ++ end) (nodes_text-append xs ys) ∙ append_assoc (nodes_text xs) (nodes_text ys) end

abbrev high_nodes : Option (List ℕ) → Drawing → List Node
high_nodes link d = flat_map link_nodes d.links ++ flat_map (post_nodes link) d.posts

pub picture_parts : (link : Option (List ℕ)) (d : Drawing) → svg_text link d ≡ tag_text (codes "svg") (page_attributes d) ++ (nodes_text (head_nodes d) ++ (nodes_text (flat_map band_nodes d.bands)
    ++ (node_text (centre_node link d) ++ (nodes_text (flat_map (item_nodes link) d.items) ++ (nodes_text (flat_map link_nodes d.links)
    ++ (nodes_text (flat_map (post_nodes link) d.posts) ++ codes "</svg>\n"))))))
picture_parts link d =
    let end = codes "</svg>\n" in
    let bands = flat_map band_nodes d.bands in
    let centre = centre_node link d in
    let items = flat_map (item_nodes link) d.items in
    let links = flat_map link_nodes d.links in
    let posts = flat_map (post_nodes link) d.posts in
    let high = high_nodes link d in
    ap (λ t. tag_text (codes "svg") (page_attributes d) ++ t)
    (then_text (head_nodes d) (bands ++ (centre ∷ (items ++ high))) end
    ∙ ap (λ t. nodes_text (head_nodes d) ++ t) (then_text bands (centre ∷ (items ++ high)) end
    ∙ ap (λ t. nodes_text bands ++ t) (append_assoc (node_text centre) (nodes_text (items ++ high)) end
    ∙ ap (λ t. node_text centre ++ t) (then_text items high end
    ∙ ap (λ t. nodes_text items ++ t) (then_text links posts end)))))

-- one more
pub more_text : {X : Type 0} (f : X → List Node) (xs : List X) (k : ℕ) (d : X) → k < length xs →
    nodes_text (flat_map f (take (k + 1) xs)) ≡ nodes_text (flat_map f (take k xs)) ++ nodes_text (f (get_or xs k d))
more_text f xs k d lt =
    ap (λ ys. nodes_text (flat_map f ys)) (take_more xs k d lt)
    ∙ ap nodes_text (flat_map-append f (take k xs) (get_or xs k d ∷ []) ∙ ap (λ ys. flat_map f (take k xs) ++ ys) (flat_map_one f (get_or xs k d)))
    ∙ nodes_text-append (flat_map f (take k xs)) (f (get_or xs k d))
  where
    flat_map_one : {X : Type 0} (f : X → List Node) (x : X) → flat_map f (x ∷ []) ≡ f x
    flat_map_one f x = flat_map-cons f x [] ∙ append-nil (f x)
