-- Numbers of a list that pass through a buffer, one more at a time.
use Rattle.std.proofs.Common.{◌≡◌, ℕ, zero, suc, ◌+◌, ◌-◌, ◌<◌, List, [], ◌∷◌, ◌++◌, length, get_or, take, map, Option, sym, ◌∙◌, subst, append_assoc, arith}
use Rattle.std.specs.Prelude.{decimal}
use Rattle.std.specs.List.{join_with_byte}
use Rattle.std.proofs.lemmas.List.{take_all}
use Rattle.text_fields.specs.Joined.{member_text}
use Rattle.text_fields.proofs.Joins.{members_more}
use Rattle.tor_io.specs.Contents.{GainsPrefix, PassesOn}
use Rattle.tor_io.proofs.Passing.{longer, one_and_another, one_and_prefix}

-- the numbers so far are a first part of all
members_stop : (c : ℕ) (numbers : List ℕ) (n i : ℕ) (old new : Option (List ℕ)) (before : List ℕ) → i + n ≡ length numbers
    → GainsPrefix old new (before ++ join_with_byte c (map decimal (take i numbers))) → GainsPrefix old new (before ++ join_with_byte c (map decimal numbers))
members_stop c numbers zero i old new before whole gain =
    subst (λ t. GainsPrefix old new (before ++ join_with_byte c (map decimal t))) (take_all i numbers (omega (arith, whole))) gain
members_stop c numbers (suc n) i old new before whole gain =
    members_stop c numbers n (i + 1) old new before (omega (arith, whole))
    (subst (λ t. GainsPrefix old new (before ++ t)) (sym (members_more c numbers i (omega (arith, whole))))
    (subst (GainsPrefix old new) (append_assoc before (join_with_byte c (map decimal (take i numbers))) (member_text c i (get_or numbers i 0)))
    (longer old new (before ++ join_with_byte c (map decimal (take i numbers))) (member_text c i (get_or numbers i 0)) gain)))

pub member_passed : (c : ℕ) (numbers : List ℕ) (i : ℕ) (old between new : Option (List ℕ)) (before waiting after : List ℕ) → i < length numbers
    → PassesOn old between waiting (before ++ join_with_byte c (map decimal (take i numbers))) → PassesOn between new after (waiting ++ member_text c i (get_or numbers i 0))
    → PassesOn old new after (before ++ join_with_byte c (map decimal (take (i + 1) numbers)))
member_passed c numbers i old between new before waiting after lt first second =
    subst (λ t. PassesOn old new after (before ++ t)) (sym (members_more c numbers i lt))
    (one_and_another old between new before waiting after (join_with_byte c (map decimal (take i numbers))) (member_text c i (get_or numbers i 0)) first second)

pub member_stopped : (c : ℕ) (numbers : List ℕ) (i : ℕ) (old between new : Option (List ℕ)) (before waiting : List ℕ) → i < length numbers
    → PassesOn old between waiting (before ++ join_with_byte c (map decimal (take i numbers))) → GainsPrefix between new (waiting ++ member_text c i (get_or numbers i 0))
    → GainsPrefix old new (before ++ join_with_byte c (map decimal numbers))
member_stopped c numbers i old between new before waiting lt first second =
    members_stop c numbers (length numbers - (i + 1)) (i + 1) old new before (omega (arith, lt))
    (subst (λ t. GainsPrefix old new (before ++ t)) (sym (members_more c numbers i lt))
    (one_and_prefix old between new before waiting (join_with_byte c (map decimal (take i numbers))) (member_text c i (get_or numbers i 0)) first second))

-- a row, put together another way
pub row_parts : (number numbers : List ℕ) (bar last : ℕ) → (number ++ bar ∷ []) ++ (numbers ++ last ∷ []) ≡ (number ++ (bar ∷ numbers)) ++ last ∷ []
row_parts number numbers bar last = append_assoc number (bar ∷ []) (numbers ++ last ∷ []) ∙ sym (append_assoc number (bar ∷ numbers) (last ∷ []))
