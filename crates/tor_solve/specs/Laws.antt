-- The laws that this crate proves, each as the contract of a function in src/laws.rt.
use Rattle.std.specs.Prelude.{◌↔◌, ℕ, ◌⊎◌, List, All}
use Rattle.relationships.specs.declared.walk.Walk.{Walk}
use Rattle.relationships.specs.Evidence.{NeighboursDiffer, Numbered, paths_of, Refutes, Closure}
use Rattle.relationships.specs.Selection.{IsServable}

-- whether a closure holds an order is decided
abbrev pub DecidedLaw : Type 0
DecidedLaw = (paths : List (List ℕ)) (a b y z : ℕ) → Closure paths a b y z ⊎ (Closure paths a b y z → ⊥)

-- no orientation serves the paths exactly if some walk refutes over them
abbrev pub RefutationLaw : Type 0
RefutationLaw = (A : Numbered) → All NeighboursDiffer (paths_of A) → (IsServable (paths_of A) → ⊥) ↔ ((w : Walk) × Refutes A w)
