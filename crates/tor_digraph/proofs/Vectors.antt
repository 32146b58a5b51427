-- A small digraph: nodes 0 to 3, and arcs from 0 to 1, 1 to 2, 2 to 1 and 0 to 3.
use Rattle.std.proofs.Common.{◌≡◌, ℕ, zero, suc, ◌⊎◌, inl, inr, [], ◌∷◌, Some, refl, sym, arith}
use Rattle.std.specs.Prelude.{slice_get}
use Rattle.std.proofs.lemmas.Option.{some_pair_parts}
use Rattle.tor_digraph.specs.Walks.{Net, Reaches, here, along, first_part}
use Rattle.tor_digraph.specs.Leaving.{arcs_below}

abbrev pub small : Net ℕ
small = record { nodes = 4; arcs = (0, 1) ∷ (1, 2) ∷ (2, 1) ∷ (0, 3) ∷ [] }

-- the arcs that leave 0, the latest first, each with its place and its head
leaving_0 : arcs_below (λ n. n) small.arcs 0 4 ≡ (3, 3) ∷ (0, 1) ∷ []
leaving_0 = refl

undone : first_part (record small { arcs = (0, 1) ∷ (1, 2) ∷ (2, 1) ∷ (0, 3) ∷ (3, 0) ∷ [] }) 4 4 ≡ small
undone = refl

from_0_to_2 : Reaches small.arcs 0 2
from_0_to_2 = along (along here (0, refl)) (1, refl)

-- which arcs there are
pub arc_cases : (k b c : ℕ) → slice_get small.arcs k ≡ Some (b, c) → ((b ≡ 0) × (c ≡ 1)) ⊎ (((b ≡ 1) × (c ≡ 2)) ⊎ (((b ≡ 2) × (c ≡ 1)) ⊎ ((b ≡ 0) × (c ≡ 3))))
arc_cases zero b c e = let p = some_pair_parts 0 b 1 c e in inl (sym p.0, sym p.1)
arc_cases (suc zero) b c e = let p = some_pair_parts 1 b 2 c e in inr (inl (sym p.0, sym p.1))
arc_cases (suc (suc zero)) b c e = let p = some_pair_parts 2 b 1 c e in inr (inr (inl (sym p.0, sym p.1)))
arc_cases (suc (suc (suc zero))) b c e = let p = some_pair_parts 0 b 3 c e in inr (inr (inr (sym p.0, sym p.1)))
arc_cases (suc (suc (suc (suc k)))) b c e = cc

-- 1 reaches 1 and 2 alone
from_1 : {x : ℕ} → Reaches small.arcs 1 x → (x ≡ 1) ⊎ (x ≡ 2)
from_1 here = inl refl
from_1 (along {b} {c} w arc) = elim (arc_cases arc.0 b c arc.1) [
  | inl p ↦ elim (from_1 w) [ inl q ↦ absurd (omega arith) | inr q ↦ absurd (omega arith) ]
  | inr r ↦ elim r [
    | inl p ↦ inr p.1
    | inr r ↦ elim r [
      | inl p ↦ inl p.1
      | inr p ↦ elim (from_1 w) [ inl q ↦ absurd (omega arith) | inr q ↦ absurd (omega arith) ]
    ]
  ]
]

not_from_1_to_3 : Reaches small.arcs 1 3 → ⊥
not_from_1_to_3 w = elim (from_1 w) [ inl q ↦ omega arith | inr q ↦ omega arith ]
