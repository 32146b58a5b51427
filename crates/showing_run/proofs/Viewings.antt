-- An AS is there or isn't, and the link of the words.
use Rattle.std.proofs.Common.{◌≡◌, ℕ, Bool, true, false, List, [], ◌∷◌, refl, arith}
use Rattle.std.specs.Prelude.{Option, Some, None, IfSome, not, nat_le, ◌&&◌, ◌||◌, ◌==◌}
use Rattle.std.specs.List.{list_all}
use Rattle.std.proofs.lemmas.Bool.{and_from, and_parts, le-leb, leb-true}
use Rattle.drawing.specs.Svg.{CanLead, is_address_character}
use Rattle.tor_words.specs.Links.{IsLink, is_link_character}
use Rattle.showing_run.proofs.Comings.{NotBoth}
use Rattle.showing_run.specs.Views.{viewing}

pub not_both : NotBoth viewing
not_both settings file text none some = none some.0

-- ---- a link that words may have can be written in a picture

may_stand : (ge le quote apostrophe less more amp : Bool) → ((ge && le) && not (quote || (apostrophe || (less || more)))) ≡ true →
    ((true && (le && (not quote && (not amp && (not less && not more))))) || amp) ≡ true
may_stand true true false false false false true e = refl
may_stand true true false false false false false e = refl
may_stand true true false false false true amp e = absurd cc
may_stand true true false false true more amp e = absurd cc
may_stand true true false true less more amp e = absurd cc
may_stand true true true apostrophe less more amp e = absurd cc
may_stand true false quote apostrophe less more amp e = absurd cc
may_stand false le quote apostrophe less more amp e = absurd cc

address_character : (c : ℕ) → is_link_character c ≡ true → is_address_character c ≡ true
address_character c is =
    let from : nat_le 33 c ≡ true = (and_parts (nat_le 33 c) (nat_le c 126) (and_parts (nat_le 33 c && nat_le c 126) _ is).0).0 in
    let low : nat_le 32 c ≡ true = le-leb 32 c (omega (arith, leb-true 33 c from)) in
    rw low (may_stand (nat_le 33 c) (nat_le c 126) (c == 34) (c == 39) (c == 60) (c == 62) (c == 38) is)

all_address : (text : List ℕ) → list_all is_link_character text ≡ true → list_all is_address_character text ≡ true
all_address [] is = refl
all_address (c ∷ cs) is =
    let parts = and_parts (is_link_character c) (list_all is_link_character cs) is in
    and_from (is_address_character c) (list_all is_address_character cs) (address_character c parts.0) (all_address cs parts.1)

pub can_lead : (link : Option (List ℕ)) → IfSome link IsLink → CanLead link
can_lead None is = tt
can_lead (Some text) is = all_address text (and_parts _ (list_all is_link_character text) is).1
