-- What walks and closures show of the orientations that serve.
-- Each law is proved as the contract of a function in src/laws/evidence.rt.
use Rattle.std.specs.Prelude.{◌≢◌, ◌↔◌, ℕ, ◌<◌, Bool, List, All, Contains, IsTrue, if◌then◌else◌}
use Rattle.relationships.specs.declared.label.End.{End}
use Rattle.relationships.specs.Relationship.{Orientation, labels_of, is_over, Serves}
use Rattle.relationships.specs.declared.walk.Walk.{Walk}
use Rattle.relationships.specs.Graph.{edges}
use Rattle.relationships.specs.Evidence.{NeighboursDiffer, Numbered, paths_of, Refutes, Show, Closure, IsConsistent}
use Rattle.relationships.specs.Selection.{IsServable, IsForced}

-- a walk that refutes leaves no orientation
abbrev pub RefutingLaw : Type 0
RefutingLaw = (A : Numbered) (w : Walk) → Refutes A w → (O : Orientation) → Serves O (paths_of A) → ⊥

-- an order of two ASes that is shown holds in every orientation that serves
abbrev pub ShowingLaw : Type 0
ShowingLaw =
    (A : Numbered) (walks : List Walk) (orders : List (ℕ × ℕ)) → All NeighboursDiffer (paths_of A) → Show A walks orders →
    (O : Orientation) → Serves O (paths_of A) →
    (a b : ℕ) → a ≢ b → Contains orders (a, b) → IsTrue (is_over (labels_of O) a b)

-- the orientation with each order that is found put in
abbrev pub changed : Orientation → (ℕ → ℕ → Bool) → Orientation
changed O found low high = if found low high then End.Low else (if found high low then End.High else O low high)

-- where a closure is consistent, its orders may all be put into an orientation that serves
abbrev pub ClosureLaw : Type 0
ClosureLaw =
    (O : Orientation) (paths : List (List ℕ)) (a b : ℕ) (found : ℕ → ℕ → Bool) → All NeighboursDiffer paths →
    IsConsistent paths a b → ((y z : ℕ) → IsTrue (found y z) ↔ Closure paths a b y z) → Serves O paths →
    Serves (changed O found) paths × ((y z : ℕ) → Closure paths a b y z → IsTrue (is_over (labels_of (changed O found)) y z))

-- so no order of a consistent closure is ruled out by the orientations that serve
abbrev pub AllowedLaw : Type 0
AllowedLaw =
    (O : Orientation) (paths : List (List ℕ)) (a b : ℕ) → All NeighboursDiffer paths → IsConsistent paths a b → Serves O paths →
    (y z : ℕ) → Closure paths a b y z → ((O' : Orientation) → Serves O' paths → IsTrue (is_over (labels_of O') z y)) → ⊥

-- a closure is consistent if it does not hold the other order of its own start
abbrev pub ConsistencyLaw : Type 0
ConsistencyLaw = (paths : List (List ℕ)) (a b : ℕ) → (Closure paths a b b a → ⊥) → IsConsistent paths a b

-- an order that stands in the closure of its opposite holds in each orientation that serves
abbrev pub ImpliedLaw : Type 0
ImpliedLaw =
    (O : Orientation) (paths : List (List ℕ)) (a b : ℕ) → a ≢ b → Closure paths b a a b → Serves O paths →
    IsTrue (is_over (labels_of O) a b)

-- where some orientation serves, an edge is not forced if neither order stands in the closure of the other
abbrev pub OpenLaw : Type 0
OpenLaw =
    (paths : List (List ℕ)) (low high : ℕ) → All NeighboursDiffer paths → IsServable paths → low < high →
    (Closure paths low high high low → ⊥) → (Closure paths high low low high → ⊥) → IsForced paths low high → ⊥

-- nor is an edge that no path holds
abbrev pub UnheldLaw : Type 0
UnheldLaw =
    (paths : List (List ℕ)) (low high : ℕ) → IsServable paths → (Contains (edges paths) (low, high) → ⊥) → IsForced paths low high → ⊥
