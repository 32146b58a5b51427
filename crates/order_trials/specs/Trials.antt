-- A search over orders that the labels do not have: what it has passed, and what stops it. These words are the search's own: no reader
-- of a public clause needs them.
use Rattle.std.specs.Prelude.{ℕ, ◌<◌, ◌≤◌, ◌⊎◌, Bool, true, false, List, length, Contains}
use Rattle.tor_digraph.specs.Walks.{HasArc}
use Rattle.tor_digraph.specs.Trails.{StandsAt}
use Rattle.tor_clauses.specs.Literals.{opposite_node}
use Rattle.tor_clauses.specs.Rounds.{IsClash}

-- the head of an arc from the node at place k is among them, or one past which the search does not go, and up to k its opposite is
-- not among them
abbrev pub IsPassed : List ℕ → List ℕ → List ℕ → ℕ → ℕ → Type 0
IsPassed held past nodes k y =
    (Contains nodes y ⊎ (Contains held y ⊎ Contains past y)) × ((j : ℕ) → j ≤ k → StandsAt nodes j (opposite_node y) → ⊥)

-- so of all arcs from the nodes at the places before this one
abbrev pub ArePassed : List (ℕ × ℕ) → List ℕ → List ℕ → List ℕ → ℕ → Type 0
ArePassed arcs held past nodes next =
    (k x : ℕ) → k < next → StandsAt nodes k x → (y : ℕ) → HasArc arcs x y → IsPassed held past nodes k y

abbrev pub AreAllPassed : List (ℕ × ℕ) → List ℕ → List ℕ → List ℕ → Type 0
AreAllPassed arcs held past nodes = ArePassed arcs held past nodes (length nodes)

-- an arc from the node at a place clashes, or its head is passed
abbrev pub LooksAt : List (ℕ × ℕ) → List ℕ → List ℕ → List ℕ → ℕ → ℕ → ℕ → Bool → Type 0
LooksAt arcs held past nodes place arc head true = IsClash arcs nodes arc
LooksAt arcs held past nodes place arc head false = IsPassed held past nodes place head
