-- The text of a picture: SVG 1.1 (W3C), of the elements title, style, g, rect, polyline and text alone, and with a link also of a, whose href
-- is of SVG 2. Nothing in it runs or is fetched.
use Rattle.std.specs.Prelude.{◌≡◌, ◌⊎◌, ◌<◌, ◌^◌, ℕ, suc, zero, ◌+◌, ◌/◌, ◌%◌, ◌==◌, Bool, ◌&&◌, ◌||◌, nat_lt, if◌then◌else◌, codes, Option, Some, None, IfSome, IsTrue, All}
use Rattle.std.specs.Prelude.{List, [], ◌∷◌, ◌++◌, flat_map}
use Rattle.std.specs.Fmt.{decimal}
use Rattle.std.specs.List.{Any, list_all, list_any}
use Rattle.relationships.specs.declared.mark.Mark.{Mark}
use Rattle.relationships.specs.declared.mark.Mark.TheVariants as mark
use Rattle.drawing.specs.declared.group.Group.{Group}
use Rattle.drawing.specs.declared.group.Tally.{Tally}
use Rattle.drawing.specs.declared.group.NeighbourCounts.{NeighbourCounts}
use Rattle.drawing.specs.declared.page.Rect.{Rect}
use Rattle.drawing.specs.declared.drawing.Band.{Band}
use Rattle.drawing.specs.declared.drawing.BandPart.{BandPart}
use Rattle.drawing.specs.declared.drawing.BandPart.TheVariants as part
use Rattle.drawing.specs.declared.drawing.BoxEntry.{BoxEntry}
use Rattle.drawing.specs.declared.drawing.BoxEntry.TheVariants as entry
use Rattle.drawing.specs.declared.drawing.Item.{Item}
use Rattle.drawing.specs.declared.drawing.Post.{Post}
use Rattle.drawing.specs.declared.drawing.RisingLine.{RisingLine}
use Rattle.drawing.specs.declared.drawing.Drawing.{Drawing}
use Rattle.drawing.specs.declared.printing.Words.{Words}
use Rattle.drawing.specs.declared.printing.Words.TheVariants as words
use Rattle.drawing.specs.Page.{line_points, slant_points}
use Rattle.drawing.specs.Xml.{SvgAttribute, Element, Node, leaf, branch, is_plain, is_same_name, document}

-- ---- numbers

-- three digits
abbrev pub three_digits : ℕ → List ℕ
three_digits n = (48 + n / 100) ∷ (48 + (n / 10) % 10) ∷ (48 + n % 10) ∷ []

-- a number with a comma before each three digits, of so many at most
abbrev pub comma_digits : ℕ → ℕ → List ℕ
comma_digits zero n = decimal n
comma_digits (suc k) n = if nat_lt n 1000 then decimal n else comma_digits k (n / 1000) ++ 44 ∷ three_digits (n % 1000)

unfoldable pub thousands : ℕ → List ℕ
thousands n = comma_digits 6 n

-- ---- elements

abbrev pub word_of : List ℕ → List ℕ → SvgAttribute
word_of name value = record { name = name; value = value }

abbrev pub number_attribute : List ℕ → ℕ → SvgAttribute
number_attribute name n = word_of name (decimal n)

-- what the class says of colours and letters stands in the style
abbrev pub class_of : List ℕ → SvgAttribute
class_of class = word_of (codes "class") class

abbrev pub title : List ℕ → Element
title words = record { name = codes "title"; attributes = []; inner = Some words }

abbrev pub rect_with : Rect → List SvgAttribute → Element
rect_with b more = record {
  name = codes "rect";
  attributes = number_attribute (codes "x") b.x ∷ number_attribute (codes "y") b.y ∷
      number_attribute (codes "width") b.width ∷ number_attribute (codes "height") b.height ∷ more;
  inner = None;
}

-- the frame of a box, of which these dashes are drawn
abbrev pub frame : Rect → List ℕ → List ℕ → Element
frame b class dashed = rect_with b (class_of class ∷ word_of (codes "stroke-dasharray") dashed ∷ [])

unfoldable pub point : ℕ → ℕ → List ℕ
point x y = decimal x ++ 44 ∷ decimal y

-- points, each behind a space
unfoldable pub points : List (ℕ × ℕ) → List ℕ
points [] = []
points (p ∷ ps) = 32 ∷ point p.0 p.1 ++ points ps

abbrev pub polyline : List (ℕ × ℕ) → List SvgAttribute → Element
polyline l more = record { name = codes "polyline"; attributes = word_of (codes "points") (points l) ∷ more; inner = None }

-- a text from a point on, or around it, as its class says
abbrev pub text_at : ℕ → ℕ → List ℕ → List ℕ → Element
text_at x y class words = record {
  name = codes "text";
  attributes = number_attribute (codes "x") x ∷ number_attribute (codes "y") y ∷ class_of class ∷ [];
  inner = Some words;
}

-- ---- marks: solid and dark where the edge is forced, and dashed where it is open

abbrev pub mark_class : Mark → List ℕ
mark_class m = elim m [ mark.Forced ↦ codes "f" | mark.Open ↦ codes "o" ]

abbrev pub mark_dashes : Mark → List ℕ
mark_dashes m = elim m [ mark.Forced ↦ codes "none" | mark.Open ↦ codes "4 3" ]

-- pale and dotted for those that are left out
abbrev pub entry_class : BoxEntry → List ℕ
entry_class (entry.One n) = mark_class n.mark
entry_class (entry.More n) = codes "d"

abbrev pub dashes : BoxEntry → List ℕ
dashes (entry.One n) = mark_dashes n.mark
dashes (entry.More n) = codes "1 3"

-- a box of a further generation is no edge's
abbrev pub post_dashes : BoxEntry → List ℕ
post_dashes (entry.One n) = codes "none"
post_dashes (entry.More n) = codes "1 3"

-- ---- what is written

abbrev pub as_words : ℕ → List ℕ
as_words n = codes "AS" ++ decimal n

-- what a word ends with behind a number
abbrev pub ending : ℕ → List ℕ
ending n = if n == 1 then [] else codes "s"

abbrev pub paths_words : ℕ → List ℕ
paths_words n = thousands n ++ (codes " path" ++ ending n)

abbrev pub group_words : Group → List ℕ
group_words Group.Providers = codes "provider"
group_words Group.Peers = codes "peer"
group_words Group.Customers = codes "customer"

abbrev pub mark_words : Mark → List ℕ
mark_words m = elim m [ mark.Forced ↦ codes "forced" | mark.Open ↦ codes "open" ]

abbrev pub more_words : ℕ → Group → List ℕ
more_words n g = thousands n ++ (codes " more " ++ (group_words g ++ ending n))

-- the title of a box
abbrev pub entry_title : Group → BoxEntry → List ℕ
entry_title g (entry.One n) =
    as_words n.number ++ (codes ", " ++ (group_words g ++ (codes ", " ++ (mark_words n.mark ++ (codes ", " ++ paths_words n.support)))))
entry_title g (entry.More n) = more_words n g

-- that of a further generation, whose AS may have several edges to those below
abbrev pub post_title : BoxEntry → List ℕ
post_title (entry.One n) = as_words n.number ++ (codes ", provider, up to " ++ paths_words n.support)
post_title (entry.More n) = more_words n Group.Providers

-- in a box of those that are left out
abbrev pub left_words : ℕ → List ℕ
left_words n = thousands n ++ codes " more"

-- the heading of a band, and what is said of some of its ASes
abbrev pub heading_words : Group → List ℕ
heading_words g = group_words g ++ codes "s"

abbrev pub all_words : ℕ → List ℕ
all_words n = thousands n ++ codes " in all"

abbrev pub part_words : BandPart → List ℕ
part_words (part.Forced n) = thousands n ++ codes " forced"
part_words (part.StepsUp n) = thousands n ++ codes " steps up"

-- how many there are, of what, and how many of them are forced
abbrev pub tally_words : List ℕ → Tally → List ℕ
tally_words what t =
    thousands t.all ++ (what ++ (ending t.all ++ (codes " (" ++ (thousands t.forced ++ codes " forced)"))))

-- the title of the picture
abbrev pub caption_words : ℕ → NeighbourCounts → List ℕ
caption_words a c =
    as_words a ++ (codes ": " ++ (tally_words (codes " provider") c.providers ++ (codes ", " ++ (tally_words (codes " peer") c.peers
    ++ (codes ", " ++ tally_words (codes " customer") c.customers)))))

-- what may stand in a text or a title
abbrev pub words_text : Words → List ℕ
words_text (words.Picture a c) = caption_words a c
words_text (words.Number n) = as_words n
words_text (words.Paths n) = paths_words n
words_text (words.Left n) = left_words n
words_text (words.Entry g e) = entry_title g e
words_text (words.Post e) = post_title e
words_text (words.Heading g) = heading_words g
words_text (words.All n) = all_words n
words_text (words.Part p) = part_words p
words_text words.Solid = codes "solid frame: the label of the edge is forced"
words_text words.Dashed = codes "dashed frame: it is open, as between peers it always is"

-- ---- links

-- a character that an address may have: in XML & is written as &amp;
abbrev pub is_address_character : ℕ → Bool
is_address_character c = is_plain c || (c == 38)

abbrev pub xml_character : ℕ → List ℕ
xml_character c = if c == 38 then codes "&amp;" else c ∷ []

-- where a link leads for an AS, whose number stands for each {}
unfoldable pub address : List ℕ → ℕ → List ℕ
address [] a = []
address (c ∷ []) a = xml_character c
address (c ∷ d ∷ cs) a = if (c == 123) && (d == 125) then decimal a ++ address cs a else xml_character c ++ address (d ∷ cs) a

-- where the box of an AS leads, if there is a link and an AS
abbrev pub box_lead : Option (List ℕ) → Option ℕ → Option (List ℕ)
box_lead None _ = None
box_lead (Some link) None = None
box_lead (Some link) (Some a) = Some (address link a)

-- of a box of those that are left out there is none
abbrev pub entry_number : BoxEntry → Option ℕ
entry_number (entry.One n) = Some n.number
entry_number (entry.More n) = None

abbrev pub box_name : Option (List ℕ) → List ℕ
box_name None = codes "g"
box_name (Some to) = codes "a"

abbrev pub box_attributes : Option (List ℕ) → List SvgAttribute
box_attributes None = []
box_attributes (Some to) = word_of (codes "href") to ∷ []

-- ---- boxes

-- an AS with its paths, or how many are left out
abbrev pub entry_texts : Rect → BoxEntry → List Element
entry_texts b (entry.One n) =
    text_at (b.x + 44) (b.y + 14) (codes "m") (as_words n.number) ∷ text_at (b.x + 44) (b.y + 26) (codes "m s") (paths_words n.support) ∷ []
entry_texts b (entry.More n) = text_at (b.x + 44) (b.y + 20) (codes "m") (left_words n) ∷ []

-- what belongs to one box, of which a browser shows the title, and which may lead somewhere
abbrev pub box_node : Option (List ℕ) → List ℕ → Element → List Element → Node
box_node to words framed texts = branch (box_name to) (box_attributes to) (title words ∷ framed ∷ texts)

abbrev pub item_frame : Item → Element
item_frame i = frame i.at (entry_class i.entry) (dashes i.entry)

-- a neighbour: its line is as thin and pale as all others, and its frame has its mark
abbrev pub item_box : Option (List ℕ) → Item → Node
item_box link i = box_node (box_lead link (entry_number i.entry)) (entry_title i.group i.entry) (item_frame i) (entry_texts i.at i.entry)

abbrev pub item_nodes : Option (List ℕ) → Item → List Node
item_nodes link i = leaf (polyline (line_points i.line) (class_of (codes "r") ∷ [])) ∷ item_box link i ∷ []

-- an AS of a further generation, and a line to one, which has the mark of its edge
abbrev pub post_frame : Post → Element
post_frame q = frame q.at (codes "d") (post_dashes q.entry)

abbrev pub post_box : Option (List ℕ) → Post → Node
post_box link q = box_node (box_lead link (entry_number q.entry)) (post_title q.entry) (post_frame q) (entry_texts q.at q.entry)

abbrev pub post_nodes : Option (List ℕ) → Post → List Node
post_nodes link q = post_box link q ∷ []

abbrev pub link_element : RisingLine → Element
link_element l =
    polyline (slant_points l.line) (class_of (mark_class l.mark) ∷ word_of (codes "stroke-dasharray") (mark_dashes l.mark) ∷ [])

abbrev pub link_nodes : RisingLine → List Node
link_nodes l = leaf (link_element l) ∷ []

-- the AS that is asked for
abbrev pub centre_frame : Drawing → Element
centre_frame d = frame d.centre (codes "k") (codes "none")

abbrev pub centre_texts : Drawing → List Element
centre_texts d = text_at (d.centre.x + 60) (d.centre.y + 20) (codes "m b") (as_words d.asked) ∷ []

abbrev pub centre_node : Option (List ℕ) → Drawing → Node
centre_node link d = box_node (box_lead link (Some d.asked)) (as_words d.asked) (centre_frame d) (centre_texts d)

-- ---- bands

abbrev pub band_class : Group → List ℕ
band_class Group.Providers = codes "p"
band_class Group.Peers = codes "q"
band_class Group.Customers = codes "c"

-- a band with its heading
abbrev pub band_nodes : Band → List Node
band_nodes b =
    leaf (rect_with b.at (class_of (band_class b.group) ∷ []))
    ∷ leaf (text_at 16 (b.at.y + 20) (codes "b") (heading_words b.group))
    ∷ leaf (text_at 16 (b.at.y + 36) (codes "s") (all_words b.all))
    ∷ leaf (text_at 16 (b.at.y + 50) (codes "s") (part_words b.part)) ∷ []

-- ---- the whole

-- what the classes mean: colours, by day and by night, and letters
unfoldable pub style_words : List ℕ
style_words =
    codes "svg{font:11px sans-serif;background:#fff;color-scheme:light dark}text{fill:#111}.t{font-size:16px;font-weight:bold}.b{font-weight:bold}"
    ++ (codes ".s{font-size:10px}.m{text-anchor:middle}.p{fill:#d6e7f7}.q{fill:#fbeebb}.c{fill:#ecd9e2}"
    ++ (codes ".f,.o,.d,.k{fill:#fff;stroke:#111;stroke-width:1.5}.d{stroke:#999}.r{fill:none;stroke:#888;shape-rendering:crispEdges}"
    ++ (codes "polyline.f,polyline.o{fill:none}@media (prefers-color-scheme:dark){svg{background:#111}text{fill:#eee}.p{fill:#15324c}"
    ++ codes ".q{fill:#433a12}.c{fill:#452a3b}.f,.o,.d,.k{fill:#111;stroke:#eee}.d{stroke:#888}.r{stroke:#999}}")))

-- the title, the style, and what the frames mean
abbrev pub head_nodes : Drawing → List Node
head_nodes d =
    leaf (title (caption_words d.asked d.counts))
    ∷ leaf (record { name = codes "style"; attributes = []; inner = Some style_words })
    ∷ leaf (text_at 16 28 (codes "t") (as_words d.asked))
    ∷ leaf (text_at 16 46 (codes "l") (words_text words.Solid))
    ∷ leaf (text_at 16 60 (codes "l") (words_text words.Dashed)) ∷ []

abbrev pub nodes_of : Option (List ℕ) → Drawing → List Node
nodes_of link d =
    head_nodes d ++ (flat_map band_nodes d.bands ++ (centre_node link d ∷ (flat_map (item_nodes link) d.items
    ++ (flat_map link_nodes d.links ++ flat_map (post_nodes link) d.posts))))

-- what part of the plane the page shows
abbrev pub extent_words : Drawing → List ℕ
extent_words d = codes "0 0 " ++ (decimal d.width ++ 32 ∷ decimal d.height)

abbrev pub page_attributes : Drawing → List SvgAttribute
page_attributes d =
    word_of (codes "xmlns") (codes "http://www.w3.org/2000/svg") ∷ number_attribute (codes "width") d.width
    ∷ number_attribute (codes "height") d.height ∷ word_of (codes "viewBox") (extent_words d) ∷ []

abbrev pub svg_text : Option (List ℕ) → Drawing → List ℕ
svg_text link d = document (codes "svg") (page_attributes d) (nodes_of link d)

-- the link is made of characters that an address may have
abbrev pub CanLead : Option (List ℕ) → Type 0
CanLead link = IfSome link (λ l. IsTrue (list_all is_address_character l))

-- the page lies where numbers of 32 bits reach
pub record IsLow (d : Drawing) : Type 0 where
  pub wide : d.width < 2 ^ 32
  pub high : d.height < 2 ^ 32

-- and a box
pub record FitsNumbers (b : Rect) : Type 0 where
  pub x : b.x < 2 ^ 32
  pub y : b.y < 2 ^ 32

-- ---- what can't be taken for certain

-- its class makes it solid and dark
abbrev pub is_solid : Element → Bool
is_solid e = list_any (λ a. is_same_name a.name (codes "class") && (is_same_name a.value (codes "f") || is_same_name a.value (codes "k"))) e.attributes

abbrev pub elements_in : Node → List Element
elements_in (leaf e) = e ∷ []
elements_in (branch name attributes elements) = elements

abbrev pub is_forced_entry : BoxEntry → Type 0
is_forced_entry (entry.One n) = n.mark ≡ mark.Forced
is_forced_entry (entry.More n) = ⊥

-- the frame of a neighbour, or the line, of a forced edge; or the frame of the centre, which is no edge's
abbrev pub IsOfForced : Drawing → Element → Type 0
IsOfForced d e =
    Any (λ i. is_forced_entry i.entry × (e ≡ item_frame i)) d.items
    ⊎ (Any (λ l. (l.mark ≡ mark.Forced) × (e ≡ link_element l)) d.links ⊎ (e ≡ centre_frame d))

-- whatever is solid and dark in the picture
abbrev pub ShowsMarks : Option (List ℕ) → Drawing → Type 0
ShowsMarks link d = All (λ n. All (λ e. IsTrue (is_solid e) → IsOfForced d e) (elements_in n)) (nodes_of link d)

-- ---- what leads somewhere

-- all attributes of these elements, and of a node with its elements
abbrev pub all_attributes : List Element → List SvgAttribute
all_attributes [] = []
all_attributes (e ∷ elements) = e.attributes ++ all_attributes elements

abbrev pub node_attributes : Node → List SvgAttribute
node_attributes (leaf e) = e.attributes
node_attributes (branch name attributes elements) = attributes ++ all_attributes elements

abbrev pub leads : SvgAttribute → Bool
leads a = is_same_name a.name (codes "href")

-- the node is the box of this AS
abbrev pub IsBoxOf : Option (List ℕ) → Drawing → ℕ → Node → Type 0
IsBoxOf link d a n =
    ((d.asked ≡ a) × (n ≡ centre_node link d))
    ⊎ (Any (λ i. (entry_number i.entry ≡ Some a) × (n ≡ item_box link i)) d.items
    ⊎ Any (λ q. (entry_number q.entry ≡ Some a) × (n ≡ post_box link q)) d.posts)

-- it is that of an AS, for which the link leads there
pub record IsBoxLink (link : Option (List ℕ)) (d : Drawing) (n : Node) (to : List ℕ) : Type 0 where
  pub asked : List ℕ
  pub is_asked : link ≡ Some asked
  pub number : ℕ
  pub box : IsBoxOf link d number n
  pub is : to ≡ address asked number

-- whatever leads somewhere in the picture
abbrev pub ShowsLinks : Option (List ℕ) → Drawing → Type 0
ShowsLinks link d = All (λ n. All (λ a. IsTrue (leads a) → IsBoxLink link d n a.value) (node_attributes n)) (nodes_of link d)
