-- That no two steps have the same place: a place gives the step back that has it. The model of a step cites this.
use Rattle.std.proofs.Common.{◌≡◌, ℕ, inl, inr, ◌%◌, refl, arith}
use Rattle.std.proofs.lemmas.Bool.{cases_eq}
use Rattle.as_graph.specs.EdgeSteps.{side, end_of, place_of_step, step_of_place}

side_of_end : (n : ℕ) → side (end_of (n % 2)) ≡ n % 2
side_of_end n = elim (cases_eq (n % 2) 0) [
  | inl e ↦ rw e refl
  | inr m ↦ (let h : n % 2 ≡ 1 = omega (arith, m) in rw h refl)
]

pub place_of_step_of_place : (n : ℕ) → place_of_step (step_of_place n) ≡ n
place_of_step_of_place n = let h = side_of_end n in omega (arith, h)
