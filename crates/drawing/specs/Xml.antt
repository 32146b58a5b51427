-- The few forms of XML (W3C, Extensible Markup Language 1.0, sections 2.3, 2.4, 3.1 and 4.6) that the text of a picture has: elements that hold
-- nothing, or plain text, or others such.
use Rattle.std.specs.Prelude.{◌≡◌, ℕ, Bool, true, false, not, ◌&&◌, ◌||◌, ◌==◌, nat_le, List, []}
use Rattle.std.specs.Prelude.{◌∷◌, ◌++◌, codes, Option, Some, None, IsTrue, is_some}
use Rattle.std.specs.List.{AllByRecursion, list_all}
use Rattle.text_fields.specs.Reading.{word_at}

-- an attribute has a name and a value
pub record SvgAttribute : Type 0 where
  pub name : List ℕ
  pub value : List ℕ

-- an element has a name, attributes, and maybe text in it
pub record Element : Type 0 where
  pub name : List ℕ
  pub attributes : List SvgAttribute
  pub inner : Option (List ℕ)

-- one such element, or one with this name and these attributes that holds some
pub data Node : Type 0 where
  leaf : Element → Node
  branch : List ℕ → List SvgAttribute → List Element → Node

-- ---- what is well formed

-- a printable character of ASCII, and none of " & < >
abbrev pub is_plain : ℕ → Bool
is_plain c = nat_le 32 c && (nat_le c 126 && (not (c == 34) && (not (c == 38) && (not (c == 60) && not (c == 62)))))

abbrev pub is_letter : ℕ → Bool
is_letter c = (nat_le 65 c && nat_le c 90) || (nat_le 97 c && nat_le c 122)

abbrev pub ArePlain : List ℕ → Type 0
ArePlain text = IsTrue (list_all is_plain text)

-- plain characters, and & where it is written as &amp;
abbrev pub is_value : List ℕ → Bool
is_value [] = true
is_value (c ∷ cs) = (is_plain c || ((c == 38) && is_some (word_at (codes "amp;") cs))) && is_value cs

-- a letter, and then letters and hyphens
abbrev pub is_name : List ℕ → Bool
is_name [] = false
is_name (c ∷ cs) = is_letter c && list_all (λ b. is_letter b || (b == 45)) cs

abbrev pub is_same_name : List ℕ → List ℕ → Bool
is_same_name [] [] = true
is_same_name (b ∷ bs) (c ∷ cs) = (b == c) && is_same_name bs cs
is_same_name _ _ = false

-- each has a name and a value
abbrev pub AreAttributes : List SvgAttribute → Type 0
AreAttributes attributes = AllByRecursion (λ a. IsTrue (is_name a.name) × IsTrue (is_value a.value)) attributes

-- no name stands twice
abbrev pub are_named_once : List SvgAttribute → Bool
are_named_once [] = true
are_named_once (a ∷ attributes) = list_all (λ b. not (is_same_name a.name b.name)) attributes && are_named_once attributes

abbrev pub IsPlainInside : Option (List ℕ) → Type 0
IsPlainInside None = Unit {0}
IsPlainInside (Some text) = ArePlain text

pub record IsElement (e : Element) : Type 0 where
  pub named : IsTrue (is_name e.name)
  pub attributes : AreAttributes e.attributes
  pub once : IsTrue (are_named_once e.attributes)
  pub inside : IsPlainInside e.inner

pub record IsBranch (name : List ℕ) (attributes : List SvgAttribute) (elements : List Element) : Type 0 where
  pub named : IsTrue (is_name name)
  pub well_formed : AreAttributes attributes
  pub once : IsTrue (are_named_once attributes)
  pub each : AllByRecursion IsElement elements

abbrev pub IsNode : Node → Type 0
IsNode (leaf e) = IsElement e
IsNode (branch name attributes elements) = IsBranch name attributes elements

-- ---- texts

unfoldable pub attribute_text : SvgAttribute → List ℕ
attribute_text a = 32 ∷ a.name ++ (61 ∷ 34 ∷ a.value ++ 34 ∷ [])

-- the attributes, and then the rest
abbrev pub with_attributes : List SvgAttribute → List ℕ → List ℕ
with_attributes [] rest = rest
with_attributes (a ∷ attributes) rest = attribute_text a ++ with_attributes attributes rest

-- the end of an element that begins so
abbrev pub closing_tag : List ℕ → Option (List ℕ) → List ℕ
closing_tag name None = codes "/>\n"
closing_tag name (Some text) = 62 ∷ (text ++ (codes "</" ++ (name ++ codes ">\n")))

unfoldable pub element_text : Element → List ℕ
element_text e = 60 ∷ (e.name ++ with_attributes e.attributes (closing_tag e.name e.inner))

abbrev pub elements_text : List Element → List ℕ
elements_text [] = []
elements_text (e ∷ elements) = element_text e ++ elements_text elements

-- the first tag of an element of this name with these attributes, and its last one
abbrev pub tag_text : List ℕ → List SvgAttribute → List ℕ
tag_text name attributes = 60 ∷ (name ++ with_attributes attributes (codes ">\n"))

abbrev pub tag_end : List ℕ → List ℕ
tag_end name = codes "</" ++ (name ++ codes ">\n")

abbrev pub node_text : Node → List ℕ
node_text (leaf e) = element_text e
node_text (branch name attributes elements) = tag_text name attributes ++ (elements_text elements ++ tag_end name)

abbrev pub nodes_text : List Node → List ℕ
nodes_text [] = []
nodes_text (n ∷ nodes) = node_text n ++ nodes_text nodes

abbrev pub document : List ℕ → List SvgAttribute → List Node → List ℕ
document name attributes nodes = tag_text name attributes ++ (nodes_text nodes ++ tag_end name)

-- the text is a well-formed element of this name that holds well-formed elements, and each name stands once where it may
pub record IsDocument (name text : List ℕ) : Type 0 where
  pub attributes : List SvgAttribute
  pub nodes : List Node
  pub named : IsTrue (is_name name)
  pub well_formed : AreAttributes attributes
  pub once : IsTrue (are_named_once attributes)
  pub each : AllByRecursion IsNode nodes
  pub is : text ≡ document name attributes nodes
