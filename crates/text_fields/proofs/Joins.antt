-- Numbers joined by an octet, one more at a time.
use Rattle.std.proofs.Common.{◌≡◌, ℕ, zero, suc, ◌+◌, ◌<◌, cond, List, [], ◌∷◌, ◌++◌, length, get_or, take, map, refl, sym, ap, ◌∙◌, append_assoc, arith}
use Rattle.std.specs.Prelude.{decimal}
use Rattle.std.specs.List.{join_with_byte}
use Rattle.std.proofs.Math.Dec.{eqb-suc-zero}
use Rattle.std.proofs.lemmas.List.{map_push, length-map, length-take, take_more}
use Rattle.text_fields.specs.Joined.{member_text, row_text}

join_push : (c : ℕ) (xs : List (List ℕ)) (y : List ℕ) → 0 < length xs → join_with_byte c (xs ++ y ∷ []) ≡ join_with_byte c xs ++ (c ∷ y)
join_push c [] y lt = absurd (omega arith)
join_push c (x ∷ []) y lt = refl
join_push c (x ∷ z ∷ xs) y lt =
    ap (λ (t : List ℕ). x ++ (c ∷ t)) (join_push c (z ∷ xs) y (omega arith)) ∙ sym (append_assoc x (c ∷ join_with_byte c (z ∷ xs)) (c ∷ y))

pub first_joined : (c : ℕ) (numbers : List ℕ) → 0 < length numbers → join_with_byte c (map decimal (take 1 numbers)) ≡ decimal (get_or numbers 0 0)
first_joined c numbers lt = ap (λ (t : List ℕ). join_with_byte c (map decimal t)) (take_more numbers 0 0 lt)

pub one_more_joined : (c : ℕ) (numbers : List ℕ) (i : ℕ) → 0 < i → i < length numbers
    → join_with_byte c (map decimal (take (i + 1) numbers)) ≡ join_with_byte c (map decimal (take i numbers)) ++ (c ∷ decimal (get_or numbers i 0))
one_more_joined c numbers i from lt =
    ap (λ (t : List ℕ). join_with_byte c (map decimal t)) (take_more numbers i 0 lt) ∙ ap (join_with_byte c) (map_push decimal (take i numbers) (get_or numbers i 0))
    ∙ join_push c (map decimal (take i numbers)) (decimal (get_or numbers i 0)) (omega (arith, from, lt, length-map (take i numbers) decimal, length-take i numbers))

-- the numbers up to a place, and the one that stands there
pub members_more : (c : ℕ) (numbers : List ℕ) (i : ℕ) → i < length numbers
    → join_with_byte c (map decimal (take (i + 1) numbers)) ≡ join_with_byte c (map decimal (take i numbers)) ++ member_text c i (get_or numbers i 0)
members_more c numbers zero lt = first_joined c numbers lt
members_more c numbers (suc j) lt =
    one_more_joined c numbers (suc j) (omega arith) lt
    ∙ ap (λ b. join_with_byte c (map decimal (take (suc j) numbers)) ++ cond b (decimal (get_or numbers (suc j) 0)) (c ∷ decimal (get_or numbers (suc j) 0))) (sym (eqb-suc-zero j))

-- a number more was written, behind the octet
pub member_written : (c : ℕ) (numbers : List ℕ) (i n : ℕ) (before so_far written : List ℕ) → 0 < i → i < length numbers → n ≡ get_or numbers i 0
    → so_far ≡ before ++ join_with_byte c (map decimal (take i numbers)) → written ≡ (so_far ++ c ∷ []) ++ decimal n
    → written ≡ before ++ join_with_byte c (map decimal (take (i + 1) numbers))
member_written c numbers i n before so_far written from lt is so more =
    more ∙ append_assoc so_far (c ∷ []) (decimal n) ∙ ap (λ (t : List ℕ). t ++ (c ∷ decimal n)) so
    ∙ append_assoc before (join_with_byte c (map decimal (take i numbers))) (c ∷ decimal n)
    ∙ ap (λ (k : ℕ). before ++ (join_with_byte c (map decimal (take i numbers)) ++ (c ∷ decimal k))) is
    ∙ ap (λ (t : List ℕ). before ++ t) (sym (one_more_joined c numbers i from lt))

-- the parts of a row, one behind the other
pub row_written : (n bar byte last : ℕ) (numbers before number joined all : List ℕ) → number ≡ before ++ decimal n
    → joined ≡ (number ++ bar ∷ []) ++ join_with_byte byte (map decimal numbers) → all ≡ joined ++ last ∷ [] → all ≡ before ++ row_text n bar byte numbers last
row_written n bar byte last numbers before number joined all first second third =
    let middle = join_with_byte byte (map decimal numbers) in
    third ∙ ap (λ (t : List ℕ). t ++ last ∷ []) (second ∙ append_assoc number (bar ∷ []) middle ∙ ap (λ (t : List ℕ). t ++ (bar ∷ middle)) first
    ∙ append_assoc before (decimal n) (bar ∷ middle)) ∙ append_assoc before (decimal n ++ (bar ∷ middle)) (last ∷ [])
