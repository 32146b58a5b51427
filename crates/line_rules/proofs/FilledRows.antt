-- Rows, and empty ones behind them.
use Rattle.std.proofs.Common.{◌≡◌, ℕ, ◌+◌, ◌-◌, ◌<◌, ◌≤◌, ◌⊎◌, inl, inr, List, [], ◌∷◌, ◌++◌, Some, length, replicate, set, get_or, sym, ap, ◌∙◌, arith, append_assoc, append-nil, length-set, ap₂}
use Rattle.std.specs.Prelude.{slice_get}
use Rattle.std.proofs.lemmas.List.{length-append, length-replicate, replicate-append-replicate, set-append_left, get_or_append_left}
use Rattle.std.proofs.lemmas.Option.{get_or_from_slice_get, slice_get_within}
use Rattle.line_rules.specs.Neighbours.{filled_up, with_next}

pub many_filled : (rows : List (List ℕ)) (count : ℕ) → length rows ≤ count → length (filled_up rows count) ≡ count
many_filled rows count le =
    let a = length-append rows (replicate (count - length rows) []) in
    let r = length-replicate {A = List ℕ} (count - length rows) [] in
    omega (arith, a, r, le)

-- what is filled up twice
pub filled_further : (rows : List (List ℕ)) (n count : ℕ) → n ≤ count → length rows ≤ count → filled_up (filled_up rows n) count ≡ filled_up rows count
filled_further rows n count le few =
    append_assoc rows (replicate (n - length rows) []) (replicate (count - length (filled_up rows n)) []) ∙
    ap (λ l. rows ++ l) (replicate-append-replicate {A = List ℕ} (n - length rows) (count - length (filled_up rows n)) [] ∙ ap (λ k. replicate k []) same)
  where
    same : (n - length rows) + (count - length (filled_up rows n)) ≡ count - length rows
    same =
        let a = length-append rows (replicate (n - length rows) []) in
        let r = length-replicate {A = List ℕ} (n - length rows) [] in
        omega (arith, a, r, le, few)

-- where the first rows have the row that changes
pub filled_set : (rows : List (List ℕ)) (count k : ℕ) (row : List ℕ) → k < length rows → filled_up (set rows k row) count ≡ set (filled_up rows count) k row
filled_set rows count k row lt =
    ap (λ n. set rows k row ++ replicate (count - n) []) (length-set rows k row) ∙ sym (set-append_left rows (replicate (count - length rows) []) k row lt)

-- one empty row more
filled_one_more : (rows : List (List ℕ)) (n : ℕ) → length rows ≤ n → filled_up rows n ++ [] ∷ [] ≡ filled_up rows (n + 1)
filled_one_more rows n le =
    append_assoc rows (replicate (n - length rows) []) ([] ∷ []) ∙
    ap (λ l. rows ++ l) (replicate-append-replicate {A = List ℕ} (n - length rows) 1 [] ∙ ap (λ k. replicate k []) more)
  where
    more : (n - length rows) + 1 ≡ n + 1 - length rows
    more = omega (arith, le)

pub one_longer : (rows new : List (List ℕ)) → new ≡ rows ++ [] ∷ [] → length new ≡ length rows + 1
one_longer rows new is = ap length is ∙ length-append rows ([] ∷ [])

pub filled_same : (rows : List (List ℕ)) → rows ≡ filled_up rows (length rows)
filled_same rows = sym (ap (λ k. rows ++ replicate k []) none ∙ append-nil rows)
  where
    none : length rows - length rows ≡ 0
    none = omega arith

pub filled_more : (old rows new : List (List ℕ)) → rows ≡ filled_up old (length rows) → length old ≤ length rows → new ≡ rows ++ [] ∷ [] → new ≡ filled_up old (length new)
filled_more old rows new so le is =
    is ∙ ap (λ l. l ++ [] ∷ []) so ∙ filled_one_more old (length rows) le ∙ ap (filled_up old) (sym (one_longer rows new is))

pub filled_all : (old rows : List (List ℕ)) (count : ℕ) → rows ≡ filled_up old (length rows) → length old ≤ length rows →
    (length rows ≤ length old) ⊎ (length rows ≤ count) → count ≤ length rows → rows ≡ filled_up old count
filled_all old rows count so least few enough = so ∙ ap (λ k. old ++ replicate k []) same
  where
    same : length rows - length old ≡ count - length old
    same = elim few [ inl le ↦ omega (arith, le, least, enough) | inr le ↦ omega (arith, le, enough) ]

-- an edge is put behind the others of a row that is there
pub filled_next : (rows first : List (List ℕ)) (n count from to : ℕ) (old row : List ℕ) → first ≡ filled_up rows n → n ≤ count → length rows ≤ count →
    slice_get first from ≡ Some old → row ≡ old ++ to ∷ [] → filled_up (set first from row) count ≡ with_next (filled_up rows count) from to
filled_next rows first n count from to old row so le few at is =
    filled_set first count from row lt ∙ ap₂ (λ l r. set l from r) whole (is ∙ ap (λ o. o ++ to ∷ []) there)
  where
    lt : from < length first
    lt = slice_get_within first from old at

    whole : filled_up first count ≡ filled_up rows count
    whole = ap (λ l. filled_up l count) so ∙ filled_further rows n count le few

    there : old ≡ get_or (filled_up rows count) from []
    there =
        sym (get_or_from_slice_get first from old [] at) ∙ sym (get_or_append_left first (replicate (count - length first) []) [] from lt) ∙
        ap (λ l. get_or l from []) whole
