-- How many arcs leave nodes.
use Rattle.std.proofs.Common.{◌≡◌, ◌≢◌, ℕ, zero, suc, ◌+◌, ◌-◌, ◌≤◌, inl, inr, Bool, true, false, cond, List, [], ◌∷◌, Some, length, take, refl, ◌∙◌, ap, subst, arith, lt-ltb, le-ltb}
use Rattle.std.specs.Prelude.{slice_get, nat_eq, nat_lt}
use Rattle.std.proofs.lemmas.Bool.{cases_order, eq-eqb, ne_eqb}
use Rattle.std.proofs.lemmas.Option.{get_or_from_slice_get, slice_get_within}
use Rattle.std.proofs.lemmas.List.Sums.{sum_by-cons, sum_by-take-le, count_by-le-length, count_by_more_yes, count_by_more_no}
use Rattle.tor_digraph.specs.InRows.{count_at, count_before}

abbrev one : Bool → ℕ
one b = cond b 1 0

one-true : (b : Bool) → b ≡ true → one b ≡ 1
one-true b e = ap one e

one-false : (b : Bool) → b ≡ false → one b ≡ 0
one-false b e = ap one e

one-next : (k u : ℕ) → one (nat_lt k (u + 1)) ≡ one (nat_lt k u) + one (nat_eq k u)
one-next k u = elim (cases_order k u) [
  | inl same ↦
      let a = one-true (nat_lt k (u + 1)) (lt-ltb k (u + 1) (omega (arith, same))) in
      let b = one-false (nat_lt k u) (le-ltb k u (omega (arith, same))) in
      let c = one-true (nat_eq k u) (eq-eqb k u same) in
      omega (arith, a, b, c)
  | inr s ↦ elim s [
    | inl less ↦
        let a = one-true (nat_lt k (u + 1)) (lt-ltb k (u + 1) (omega (arith, less))) in
        let b = one-true (nat_lt k u) (lt-ltb k u less) in
        let c = one-false (nat_eq k u) (ne_eqb k u (λ e. omega (arith, less, e))) in
        omega (arith, a, b, c)
    | inr more ↦
        let a = one-false (nat_lt k (u + 1)) (le-ltb k (u + 1) (omega (arith, more))) in
        let b = one-false (nat_lt k u) (le-ltb k u (omega (arith, more))) in
        let c = one-false (nat_eq k u) (ne_eqb k u (λ e. omega (arith, more, e))) in
        omega (arith, a, b, c)
  ]
]

module _ {N : Type 0} (place : N → ℕ) where
  before-cons : (e : N × N) (arcs : List (N × N)) (u : ℕ) → count_before place (e ∷ arcs) u ≡ one (nat_lt (place e.0) u) + count_before place arcs u
  before-cons e arcs u = sum_by-cons (λ (y : N × N). cond (nat_lt (place y.0) u) 1 0) e arcs

  at-cons : (e : N × N) (arcs : List (N × N)) (u : ℕ) → count_at place (e ∷ arcs) u ≡ one (nat_eq (place e.0) u) + count_at place arcs u
  at-cons e arcs u = sum_by-cons (λ (y : N × N). cond (nat_eq (place y.0) u) 1 0) e arcs

  -- the nodes before the next place are those before this one and the one of this place
  pub before-next : (arcs : List (N × N)) (u : ℕ) → count_before place arcs (u + 1) ≡ count_before place arcs u + count_at place arcs u
  before-next [] u = refl
  before-next (e ∷ arcs) u =
      let a = before-cons e arcs (u + 1) in
      let b = before-cons e arcs u in
      let c = at-cons e arcs u in
      let d = one-next (place e.0) u in
      let rest = before-next arcs u in
      omega (arith, a, b, c, d, rest)

  pub before-none : (arcs : List (N × N)) → count_before place arcs 0 ≡ 0
  before-none [] = refl
  before-none (e ∷ arcs) =
      let a = before-cons e arcs 0 in
      let b = one-false (nat_lt (place e.0) 0) (le-ltb (place e.0) 0 (omega arith)) in
      let rest = before-none arcs in
      omega (arith, a, b, rest)

  before-rises : (arcs : List (N × N)) (u d : ℕ) → count_before place arcs u ≤ count_before place arcs (u + d)
  before-rises arcs u zero = subst (λ n. count_before place arcs u ≤ count_before place arcs n) (let same : u ≡ u + 0 = omega arith in same) (omega arith)
  before-rises arcs u (suc d) =
      let le = before-rises arcs u d in
      let next = before-next arcs (u + d) in
      subst (λ n. count_before place arcs u ≤ count_before place arcs n) (let same : u + d + 1 ≡ u + suc d = omega arith in same) (omega (arith, le, next))

  pub before-le : (arcs : List (N × N)) (u v : ℕ) → u ≤ v → count_before place arcs u ≤ count_before place arcs v
  before-le arcs u v le = subst (λ n. count_before place arcs u ≤ count_before place arcs n) (let same : u + (v - u) ≡ v = omega (arith, le) in same) (before-rises arcs u (v - u))

  pub before-few : (arcs : List (N × N)) (u : ℕ) → count_before place arcs u ≤ length arcs
  before-few arcs u = count_by-le-length (λ (e : N × N). nat_lt (place e.0) u) arcs

  pub at-few : (arcs : List (N × N)) (u : ℕ) → count_at place arcs u ≤ length arcs
  at-few arcs u = count_by-le-length (λ (e : N × N). nat_eq (place e.0) u) arcs

  pub at-take : (arcs : List (N × N)) (i u : ℕ) → count_at place (take i arcs) u ≤ count_at place arcs u
  at-take arcs i u = sum_by-take-le (λ (y : N × N). cond (nat_eq (place y.0) u) 1 0) arcs i

  -- one arc more
  pub at-more : (arcs : List (N × N)) (i : ℕ) (e : N × N) (u : ℕ) → slice_get arcs i ≡ Some e → place e.0 ≡ u →
      count_at place (take (i + 1) arcs) u ≡ count_at place (take i arcs) u + 1
  at-more arcs i e u at same =
      count_by_more_yes (λ (y : N × N). nat_eq (place y.0) u) arcs i e (slice_get_within arcs i e at)
      (ap (λ (y : N × N). nat_eq (place y.0) u) (get_or_from_slice_get arcs i e e at) ∙ eq-eqb (place e.0) u same)

  pub at-same : (arcs : List (N × N)) (i : ℕ) (e : N × N) (u : ℕ) → slice_get arcs i ≡ Some e → place e.0 ≢ u →
      count_at place (take (i + 1) arcs) u ≡ count_at place (take i arcs) u
  at-same arcs i e u at other =
      count_by_more_no (λ (y : N × N). nat_eq (place y.0) u) arcs i e (slice_get_within arcs i e at)
      (ap (λ (y : N × N). nat_eq (place y.0) u) (get_or_from_slice_get arcs i e e at) ∙ ne_eqb (place e.0) u other)
