-- The test for distinct numbers is right.
use Rattle.std.proofs.Common.{◌≡◌, ◌≢◌, ℕ, zero, suc, ◌<◌, Bool, true, false, not, ◌||◌, List, [], ◌∷◌, length, get_or, sym, arith, ◌==◌, eq-eqb}
use Rattle.std.specs.List.{list_any}
use Rattle.std.proofs.lemmas.Bool.{false≢true, and_parts, not-true}
use Rattle.tor_arena.specs.Distinct.{AllDistinct, is_distinct}

differs_at : (a : ℕ) (path : List ℕ) (k : ℕ) (d : ℕ) → list_any (λ b. b == a) path ≡ false → k < length path → a ≢ get_or path k d
differs_at a [] k d h lt = absurd (omega arith)
differs_at a (b ∷ path) zero d h lt = λ e. or_false (b == a) (list_any (λ b. b == a) path) h (eq-eqb b a (sym e))
  where
    or_false : (s t : Bool) → (s || t) ≡ false → s ≡ true → ⊥
    or_false true t h e = false≢true (sym h)
    or_false false t h e = false≢true e
differs_at a (b ∷ path) (suc k) d h lt = differs_at a path k d (or_right (b == a) (list_any (λ b. b == a) path) h) (omega arith)
  where
    or_right : (s t : Bool) → (s || t) ≡ false → t ≡ false
    or_right true t h = absurd (false≢true (sym h))
    or_right false t h = h

pub AllDistinct-from_test : (path : List ℕ) → is_distinct path ≡ true → AllDistinct path
AllDistinct-from_test [] h i j d lt within = absurd (omega arith)
AllDistinct-from_test (a ∷ path) h zero zero d lt within = absurd (omega arith)
AllDistinct-from_test (a ∷ path) h zero (suc j) d lt within =
    differs_at a path j d (not-true (list_any (λ b. b == a) path) (and_parts (not (list_any (λ b. b == a) path)) (is_distinct path) h).0) (omega arith)
AllDistinct-from_test (a ∷ path) h (suc i) zero d lt within = absurd (omega arith)
AllDistinct-from_test (a ∷ path) h (suc i) (suc j) d lt within =
    AllDistinct-from_test path (and_parts (not (list_any (λ b. b == a) path)) (is_distinct path) h).1 i j d (omega arith) (omega arith)
