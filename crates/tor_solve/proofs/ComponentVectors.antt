-- The strong components of a small digraph: nodes 0 to 3, and arcs from 0 to 1, 1 to 2, 2 to 1 and 0 to 3.
use Rattle.std.proofs.Common.{◌≡◌, ℕ, zero, suc, ◌<◌, ◌≤◌, inl, inr, [], ◌∷◌, Some, refl, sym, subst, arith}
use Rattle.std.specs.Prelude.{slice_get}
use Rattle.std.proofs.lemmas.Option.{same_Some}
use Rattle.tor_digraph.specs.Walks.{Reaches, here, along}
use Rattle.tor_digraph.proofs.Vectors.{small, arc_cases}
use Rattle.tor_solve.specs.Classes.{Classes, IsComponents}

-- 0 first, then 3, and 1 with 2 last
abbrev pub three : Classes
three = record { of = 0 ∷ 2 ∷ 2 ∷ 1 ∷ []; count = 3 }

abbrev level : ℕ → ℕ
level zero = 0
level (suc zero) = 2
level (suc (suc zero)) = 2
level (suc (suc (suc n))) = 1

at-level : (x k : ℕ) → slice_get three.of x ≡ Some k → (k ≡ level x) × (x < 4)
at-level zero k e = (sym (same_Some 0 k e), omega arith)
at-level (suc zero) k e = (sym (same_Some 2 k e), omega arith)
at-level (suc (suc zero)) k e = (sym (same_Some 2 k e), omega arith)
at-level (suc (suc (suc zero))) k e = (sym (same_Some 1 k e), omega arith)
at-level (suc (suc (suc (suc n)))) k e = cc

level-below : (x : ℕ) → level x < 3
level-below zero = omega arith
level-below (suc zero) = omega arith
level-below (suc (suc zero)) = omega arith
level-below (suc (suc (suc n))) = omega arith

next-level : (x b c i j : ℕ) → level x ≤ level b → b ≡ i → c ≡ j → level i ≤ level j → level x ≤ level c
next-level x b c i j le b-is c-is up = rw c-is (let le' : level x ≤ level i = subst (λ z. level x ≤ level z) b-is le in omega arith)

walk-rises : (x : ℕ) {y : ℕ} → Reaches small.arcs x y → level x ≤ level y
walk-rises x here = omega arith
walk-rises x (along {b} {c} w arc) = elim (arc_cases arc.0 b c arc.1) [
  | inl p ↦ next-level x b c 0 1 (walk-rises x w) p.0 p.1 (omega arith)
  | inr r ↦ elim r [
    | inl p ↦ next-level x b c 1 2 (walk-rises x w) p.0 p.1 (omega arith)
    | inr r ↦ elim r [
      | inl p ↦ next-level x b c 2 1 (walk-rises x w) p.0 p.1 (omega arith)
      | inr p ↦ next-level x b c 0 3 (walk-rises x w) p.0 p.1 (omega arith)
    ]
  ]
]

one-level : (x y : ℕ) → x < 4 → y < 4 → level x ≡ level y → Reaches small.arcs x y
one-level zero zero h k e = here
one-level zero (suc zero) h k e = absurd (omega arith)
one-level zero (suc (suc zero)) h k e = absurd (omega arith)
one-level zero (suc (suc (suc n))) h k e = absurd (omega arith)
one-level (suc zero) zero h k e = absurd (omega arith)
one-level (suc zero) (suc zero) h k e = here
one-level (suc zero) (suc (suc zero)) h k e = along here (1, refl)
one-level (suc zero) (suc (suc (suc n))) h k e = absurd (omega arith)
one-level (suc (suc zero)) zero h k e = absurd (omega arith)
one-level (suc (suc zero)) (suc zero) h k e = along here (2, refl)
one-level (suc (suc zero)) (suc (suc zero)) h k e = here
one-level (suc (suc zero)) (suc (suc (suc n))) h k e = absurd (omega arith)
one-level (suc (suc (suc m))) zero h k e = absurd (omega arith)
one-level (suc (suc (suc m))) (suc zero) h k e = absurd (omega arith)
one-level (suc (suc (suc m))) (suc (suc zero)) h k e = absurd (omega arith)
one-level (suc (suc (suc m))) (suc (suc (suc n))) h k e = let same : m ≡ n = omega arith in subst (λ z. Reaches small.arcs (suc (suc (suc m))) (suc (suc (suc z)))) same here

some-node : (k : ℕ) → k < 3 → (x : ℕ) × (slice_get three.of x ≡ Some k)
some-node zero h = (0, refl)
some-node (suc zero) h = (3, refl)
some-node (suc (suc zero)) h = (1, refl)
some-node (suc (suc (suc n))) h = absurd (omega arith)

three_components : IsComponents (λ n. n) small three
three_components = record {
  many = refl;
  same = λ x y j k cx cy. (let a = at-level x j cx in let b = at-level y k cy in (
    (λ e. (one-level x y a.1 b.1 (let p = a.0 in let q = b.0 in cc), one-level y x b.1 a.1 (let p = a.0 in let q = b.0 in cc))),
    (λ r. (let p : j ≡ level x = a.0 in let q : k ≡ level y = b.0 in let up : level x ≤ level y = walk-rises x r.0 in let down : level y ≤ level x = walk-rises y r.1 in omega arith)),
  ));
  order = λ x y j k arc cx cy. (let p : j ≡ level x = (at-level x j cx).0 in let q : k ≡ level y = (at-level y k cy).0 in let up : level x ≤ level y = walk-rises x (along here arc) in omega arith);
  below = λ x k cx. (let p : k ≡ level x = (at-level x k cx).0 in let b : level x < 3 = level-below x in omega arith);
  each = some-node;
}
