-- Numbers of which none stands there twice, sought from the end on.
use Rattle.std.proofs.Common.{◌≡◌, ℕ, zero, suc, ◌-◌, ◌<◌, ◌≤◌, Bool, true, false, not, ◌&&◌, ◌||◌, nat_eq, List, [], ◌∷◌, length, drop, get_or, refl, ap, sym, subst, ◌∙◌, ◌%◌, arith, drop-cons, set, Some}
use Rattle.std.specs.Prelude.{slice_get}
use Rattle.std.proofs.lemmas.Bool.{eqb-true, eqb-false}
use Rattle.tor_arena.proofs.Gets.{slice_get-set_same, slice_get-set_other}
use Rattle.std.specs.List.{list_any}
use Rattle.tor_arena.specs.Distinct.{is_distinct}

-- a part that ends the list and has a number twice
pub not_distinct : (xs : List ℕ) (k : ℕ) → is_distinct (drop k xs) ≡ false → is_distinct xs ≡ false
not_distinct xs zero e = e
not_distinct [] (suc k) e = absurd cc
not_distinct (x ∷ xs) (suc k) e = by (list_any (λ y. nat_eq y x) xs) (not_distinct xs k e)
  where
    by : (b : Bool) → is_distinct xs ≡ false → (not b && is_distinct xs) ≡ false
    by true ih = refl
    by false ih = ih

pub from : (path : List ℕ) (at : ℕ) → 0 < at → at ≤ length path → drop (at - 1) path ≡ get_or path (at - 1) 0 ∷ drop at path
from path at some within =
    let same : suc (at - 1) ≡ at = omega arith in
    drop-cons path (at - 1) 0 (omega arith) ∙ ap (λ k. get_or path (at - 1) 0 ∷ drop k path) same

-- the number before stands among those behind it
pub twice : (path : List ℕ) (at : ℕ) → 0 < at → at ≤ length path → list_any (λ y. nat_eq y (get_or path (at - 1) 0)) (drop at path) ≡ true → is_distinct path ≡ false
twice path at some within found =
    not_distinct path (at - 1) (ap is_distinct (from path at some within) ∙ ap (λ b. not b && is_distinct (drop at path)) found)

-- it doesn't
pub once : (path : List ℕ) (at : ℕ) → 0 < at → at ≤ length path → list_any (λ y. nat_eq y (get_or path (at - 1) 0)) (drop at path) ≡ false → is_distinct (drop at path) ≡ true
    → is_distinct (drop (at - 1) path) ≡ true
once path at some within none distinct =
    ap is_distinct (from path at some within) ∙ ap (λ b. not b && is_distinct (drop at path)) none ∙ distinct

-- the numbers from one place before on
pub one_more : (path : List ℕ) (at q : ℕ) → 0 < at → at ≤ length path
    → list_any (λ y. nat_eq y q) (drop (at - 1) path) ≡ (nat_eq (get_or path (at - 1) 0) q || list_any (λ y. nat_eq y q) (drop at path))
one_more path at q some within = ap (list_any (λ y. nat_eq y q)) (from path at some within)

-- each of the numbers has its mark
abbrev pub AreMarked : (numbers : List ℕ) (marks : List Bool) → Type 0
AreMarked numbers marks = (q : ℕ) → list_any (λ y. nat_eq y q) numbers ≡ true → slice_get marks (q % 128) ≡ Some true

-- a number that isn't marked stands nowhere
pub unmarked : (numbers : List ℕ) (marks : List Bool) (n : ℕ) → AreMarked numbers marks → slice_get marks (n % 128) ≡ Some false
    → list_any (λ y. nat_eq y n) numbers ≡ false
unmarked numbers marks n marked free = by (list_any (λ y. nat_eq y n) numbers) refl
  where
    by : (b : Bool) → list_any (λ y. nat_eq y n) numbers ≡ b → list_any (λ y. nat_eq y n) numbers ≡ false
    by true e = let on : slice_get marks (n % 128) ≡ Some true = marked n e in absurd cc
    by false e = e

-- one number more is marked
pub marked_next : (numbers : List ℕ) (marks : List Bool) (n : ℕ) → n % 128 < length marks → AreMarked numbers marks → AreMarked (n ∷ numbers) (set marks (n % 128) true)
marked_next numbers marks n within marked q found = by (nat_eq n q) refl found
  where
    now : n % 128 ≡ q % 128 → slice_get (set marks (n % 128) true) (q % 128) ≡ Some true
    now e = subst (λ k. slice_get (set marks (n % 128) true) k ≡ Some true) e (slice_get-set_same marks (n % 128) true within)

    old : (b : Bool) → nat_eq (q % 128) (n % 128) ≡ b → slice_get marks (q % 128) ≡ Some true → slice_get (set marks (n % 128) true) (q % 128) ≡ Some true
    old true e at = now (sym (eqb-true (q % 128) (n % 128) e))
    old false e at = slice_get-set_other marks (n % 128) true (q % 128) (eqb-false (q % 128) (n % 128) e) ∙ at

    by : (b : Bool) → nat_eq n q ≡ b → (b || list_any (λ y. nat_eq y q) numbers) ≡ true → slice_get (set marks (n % 128) true) (q % 128) ≡ Some true
    by true e t = now (ap (λ k. k % 128) (eqb-true n q e))
    by false e t = old (nat_eq (q % 128) (n % 128)) refl (marked q t)
