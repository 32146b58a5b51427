-- Counts of what the last line counts.
use Rattle.std.proofs.Common.{◌≡◌, inl, inr, ℕ, ◌+◌, Bool, not, cond, List, [], ◌∷◌, map, Option, Some, None, option_map, slice_get, take, length, count_by, refl, sym, ap, ap₂, ◌∙◌, arith}
use Rattle.std.proofs.lemmas.List.Sums.{sum_by-cons}
use Rattle.std.proofs.lemmas.Bool.{cases_Bool}
use Rattle.tor_arena.proofs.Counting.{count-append}
use Rattle.relationships.specs.declared.fate.Fate.{Fate}
use Rattle.relationships.specs.Fates.{is_kept}
use Rattle.result_text.specs.declared.file.Totals.{Totals}
use Rattle.tor_arena.proofs.Gets.{take_get}

count-cons : {X : Type 0} (p : X → Bool) (x : X) (xs : List X) → count_by p (x ∷ xs) ≡ cond (p x) 1 0 + count_by p xs
count-cons p x xs = sum_by-cons (λ y. cond (p y) 1 0) x xs

pub count-map : {X Y : Type 0} (f : X → Y) (p : Y → Bool) (xs : List X) → count_by (λ x. p (f x)) xs ≡ count_by p (map f xs)
count-map f p [] = refl
count-map f p (x ∷ xs) = count-cons (λ x. p (f x)) x xs ∙ ap (λ n. cond (p (f x)) 1 0 + n) (count-map f p xs) ∙ sym (count-cons p (f x) (map f xs))

pub count_with_others : {X : Type 0} (p : X → Bool) (xs : List X) → count_by p xs + count_by (λ x. not (p x)) xs ≡ length xs
count_with_others p [] = refl
count_with_others p (x ∷ xs) =
    let here = count-cons p x xs in
    let others = count-cons (λ x. not (p x)) x xs in
    let rest = count_with_others p xs in
    elim (cases_Bool (p x)) [
      | inl t ↦
          let a : count_by p (x ∷ xs) ≡ 1 + count_by p xs = here ∙ ap (λ b. cond b 1 0 + count_by p xs) t in
          let b : count_by (λ x. not (p x)) (x ∷ xs) ≡ 0 + count_by (λ x. not (p x)) xs = others ∙ ap (λ b. cond (not b) 1 0 + count_by (λ x. not (p x)) xs) t in
          omega (arith, a, b, rest)
      | inr f ↦
          let a : count_by p (x ∷ xs) ≡ 0 + count_by p xs = here ∙ ap (λ b. cond b 1 0 + count_by p xs) f in
          let b : count_by (λ x. not (p x)) (x ∷ xs) ≡ 1 + count_by (λ x. not (p x)) xs = others ∙ ap (λ b. cond (not b) 1 0 + count_by (λ x. not (p x)) xs) f in
          omega (arith, a, b, rest)
    ]

pub totals_are : (kept kept' lost lost' edges forced forced' peers peers' : ℕ) → kept ≡ kept' → lost ≡ lost' → forced ≡ forced' → peers ≡ peers' →
    ◌≡◌ {A = Totals} (record { kept = kept; lost = lost; edges = edges; forced = forced; peers = peers })
    (record { kept = kept'; lost = lost'; edges = edges; forced = forced'; peers = peers' })
totals_are kept kept' lost lost' edges forced forced' peers peers' k l f p =
    ap₂ (λ (a b : ℕ). record { kept = a; lost = b; edges = edges; forced = forced; peers = peers }) k l ∙
    ap₂ (λ (a b : ℕ). record { kept = kept'; lost = lost'; edges = edges; forced = a; peers = b }) f p

count-one : (p : Fate → Bool) (fate : Fate) → count_by p (fate ∷ []) ≡ cond (p fate) 1 0
count-one p fate = count-cons p fate [] ∙ omega arith

-- one fate more
pub count_more : (fates : List Fate) (k : ℕ) (kept : Bool) → option_map is_kept (slice_get fates k) ≡ Some kept →
    count_by is_kept (take (k + 1) fates) ≡ count_by is_kept (take k fates) + cond kept 1 0
count_more fates k kept at = by (slice_get fates k) refl at
  where
    by : (found : Option Fate) → slice_get fates k ≡ found → option_map is_kept found ≡ Some kept → count_by is_kept (take (k + 1) fates) ≡ count_by is_kept (take k fates) + cond kept 1 0
    by None is h = absurd cc
    by (Some fate) is h =
        let same : is_kept fate ≡ kept = cc in
        ap (count_by is_kept) (take_get fates k fate is) ∙ count-append is_kept (take k fates) (fate ∷ []) ∙
        ap (λ n. count_by is_kept (take k fates) + n) (count-one is_kept fate) ∙ ap (λ b. count_by is_kept (take k fates) + cond b 1 0) same
