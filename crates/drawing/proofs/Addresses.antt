-- Where links lead, part by part, and as values of attributes.
use Rattle.std.proofs.Common.{◌≡◌, ℕ, Bool, true, false, List, [], ◌∷◌, ◌++◌, ◌∙◌, length, Some, None, refl, sym, ap, subst, arith}
use Rattle.std.specs.Prelude.{◌==◌, ◌&&◌, ◌||◌, if◌then◌else◌, Option, IfSome, IsTrue, codes, is_some}
use Rattle.std.specs.Fmt.{decimal}
use Rattle.std.specs.List.{list_all}
use Rattle.std.proofs.lemmas.Bool.{and_from, and_parts}
use Rattle.std.proofs.lemmas.List.{append-nil}
use Rattle.text_fields.specs.Reading.{word_at}
use Rattle.text_fields.proofs.Readers.{word_takes}
use Rattle.drawing.specs.Svg.{CanLead, address, is_address_character, box_lead, xml_character}
use Rattle.drawing.specs.Xml.{ArePlain, is_plain, is_value}
use Rattle.drawing.proofs.Plain.{plain_decimal}

-- ---- values of attributes

abbrev IsValue : List ℕ → Type 0
IsValue text = IsTrue (is_value text)

plain_then : (text rest : List ℕ) → ArePlain text → IsValue rest → IsValue (text ++ rest)
plain_then [] rest plain valued = valued
plain_then (c ∷ text) rest plain valued =
    let parts = and_parts (is_plain c) (list_all is_plain text) plain in
    and_from (is_plain c || ((c == 38) && is_some (word_at (codes "amp;") (text ++ rest)))) (is_value (text ++ rest)) (either (is_plain c) _ parts.0)
    (plain_then text rest parts.1 valued)
  where
    either : (p q : Bool) → p ≡ true → (p || q) ≡ true
    either true q e = refl
    either false q e = absurd cc

pub valued : (text : List ℕ) → ArePlain text → IsValue text
valued text plain = subst IsValue (append-nil text) (plain_then text [] plain refl)

-- a character that isn't &
other_then : (p q x m : Bool) → (p || q) ≡ true → q ≡ false → m ≡ true → ((p || (q && x)) && m) ≡ true
other_then true q x m some none more = more
other_then false true x m some none more = absurd cc
other_then false false x m some none more = absurd cc

written_then : (c : ℕ) (rest : List ℕ) → IsTrue (is_address_character c) → IsValue rest → IsValue (xml_character c ++ rest)
written_then c rest can more = by (c == 38) refl
  where
    by : (b : Bool) → (c == 38) ≡ b → IsValue (xml_character c ++ rest)
    by true is = let amp : codes "&amp;" ≡ xml_character c = rw is refl in subst (λ w. IsValue (w ++ rest)) amp more
    by false is =
        let one : c ∷ [] ≡ xml_character c = rw is refl in
        subst (λ w. IsValue (w ++ rest)) one (other_then (is_plain c) (c == 38) (is_some (word_at (codes "amp;") rest)) (is_value rest) can is more)

either_valued : (b : Bool) (xs ys : List ℕ) → IsValue xs → IsValue ys → IsValue (if b then xs else ys)
either_valued true xs ys x y = x
either_valued false xs ys x y = y

address_valued : (link : List ℕ) (a : ℕ) → IsTrue (list_all is_address_character link) → IsValue (address link a)
unfolding address
address_valued [] a can = refl
address_valued (c ∷ []) a can = subst IsValue (append-nil (xml_character c)) (written_then c [] (and_parts (is_address_character c) true can).0 refl)
address_valued (c ∷ d ∷ cs) a can =
    let parts = and_parts (is_address_character c) (list_all is_address_character (d ∷ cs)) can in
    let behind = and_parts (is_address_character d) (list_all is_address_character cs) parts.1 in
    either_valued ((c == 123) && (d == 125)) (decimal a ++ address cs a) (xml_character c ++ address (d ∷ cs) a)
    (plain_then (decimal a) (address cs a) (plain_decimal a) (address_valued cs a behind.1))
    (written_then c (address (d ∷ cs) a) parts.0 (address_valued (d ∷ cs) a parts.1))

pub lead_valued : (link : Option (List ℕ)) (number : Option ℕ) → CanLead link → IfSome (box_lead link number) IsValue
lead_valued None number can = tt
lead_valued (Some link) None can = tt
lead_valued (Some link) (Some a) can = address_valued link a can

-- ---- parts

pub at_place : (rest behind : List ℕ) (a : ℕ) → word_at (codes "{}") rest ≡ Some behind → address rest a ≡ decimal a ++ address behind a
unfolding address
at_place rest behind a is = ap (λ r. address r a) (word_takes (codes "{}") rest behind is)

by_test : (p q : Bool) (X Y rest : List ℕ) → (if p then (if q then Some rest else None) else None) ≡ None → (if p && q then X else Y) ≡ Y
by_test true true X Y rest e = absurd cc
by_test true false X Y rest e = refl
by_test false q X Y rest e = refl

at_other : (c : ℕ) (cs : List ℕ) (a : ℕ) → word_at (codes "{}") (c ∷ cs) ≡ None → address (c ∷ cs) a ≡ xml_character c ++ address cs a
unfolding address
at_other c [] a none = sym (append-nil (xml_character c))
at_other c (d ∷ cs) a none = by_test (c == 123) (d == 125) (decimal a ++ address cs a) (xml_character c ++ address (d ∷ cs) a) cs none

pub put_other : (rest : List ℕ) (c : ℕ) (cs : List ℕ) (a : ℕ) → rest ≡ c ∷ cs → word_at (codes "{}") rest ≡ None → address rest a ≡ xml_character c ++ address cs a
put_other rest c cs a is none = ap (λ r. address r a) is ∙ at_other c cs a (ap (λ r. word_at (codes "{}") r) (sym is) ∙ none)

pub at_end : (rest : List ℕ) (a : ℕ) → length rest ≡ 0 → [] ≡ address rest a
unfolding address
at_end [] a e = refl
at_end (c ∷ cs) a e = absurd (omega (arith, e))
