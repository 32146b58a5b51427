-- Two lists of the same things, each once, are equally long.
use Rattle.std.proofs.Common.{◌≡◌, ℕ, suc, ◌≤◌, inl, inr, cond, eqb, List, [], ◌∷◌, Some, length, sym, ap, ◌∙◌, zero, arith}
use Rattle.std.specs.Prelude.{slice_get}
use Rattle.std.proofs.lemmas.Bool.Decides.{eqb_tells}
use Rattle.std.proofs.lemmas.Option.{same_Some, slice_get_within}
use Rattle.tor_arena.proofs.Gets.{has-from_Contains, Contains-from_has}
use Rattle.tor_digraph.specs.Closing.{Has, IsOnce}
use Rattle.tor_digraph.proofs.Few.{few}
use Rattle.reach_counts.specs.Laws.{OneCountLaw}

-- where a number stands first
abbrev place_in : List ℕ → ℕ → ℕ
place_in [] x = 0
place_in (y ∷ ys) x = cond (eqb x y) 0 (suc (place_in ys x))

at-place : (ys : List ℕ) (k x : ℕ) → slice_get ys k ≡ Some x → slice_get ys (place_in ys x) ≡ Some x
at-place [] k x at = cc
at-place (y ∷ ys) zero x at =
    let e : y ≡ x = same_Some y x at in
    elim (eqb_tells x y) [
      | inl p ↦ ap (λ b. slice_get (y ∷ ys) (cond b 0 (suc (place_in ys x)))) p.0 ∙ at
      | inr p ↦ absurd (p.1 (sym e))
    ]
at-place (y ∷ ys) (suc k) x at =
    let rest = at-place ys k x at in
    elim (eqb_tells x y) [
      | inl p ↦ ap (λ b. slice_get (y ∷ ys) (cond b 0 (suc (place_in ys x)))) p.0 ∙ ap (λ z. Some z) (sym p.1)
      | inr p ↦ ap (λ b. slice_get (y ∷ ys) (cond b 0 (suc (place_in ys x)))) p.0 ∙ rest
    ]

pub no-longer : (xs ys : List ℕ) → IsOnce xs → ((x : ℕ) → Has xs x → Has ys x) → length xs ≤ length ys
no-longer xs ys once into =
    few (place_in ys) xs (length ys)
    (λ i j x y lt a b e.
    let in_x = into x (i, a) in
    let in_y = into y (j, b) in
    let same : x ≡ y = same_Some x y (sym (at-place ys in_x.0 x in_x.1) ∙ ap (slice_get ys) e ∙ at-place ys in_y.0 y in_y.1) in
    let places = once i j y (a ∙ ap (λ z. Some z) same) b in
    omega (arith, lt, places))
    (λ k x at. let w = into x (k, at) in slice_get_within ys (place_in ys x) x (at-place ys w.0 x w.1))

pub one-count : OneCountLaw
one-count marks net node m n a b =
    let up = no-longer a.marked b.marked a.once (λ x h. has-from_Contains b.marked x ((b.exact x).1 ((a.exact x).0 (Contains-from_has a.marked x h)))) in
    let down = no-longer b.marked a.marked b.once (λ x h. has-from_Contains a.marked x ((a.exact x).1 ((b.exact x).0 (Contains-from_has b.marked x h)))) in
    let many_a = a.many in
    let many_b = b.many in
    omega (arith, up, down, many_a, many_b)
