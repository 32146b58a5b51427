-- The edges of paths, and neighbours on them.
-- Each law is proved as the contract of a function in src/laws/graph.rt.
use Rattle.std.specs.Prelude.{◌≡◌, ◌≢◌, ◌↔◌, ℕ, List, [], ◌∷◌, ◌++◌, Contains}
use Rattle.std.specs.List.{AllPairs}
use Rattle.relationships.specs.Graph.{Edge, edge_of, edges}
use Rattle.tor_arena.specs.Distinct.{AllDistinct}
use Rattle.relationships.specs.Evidence.{HasPair, NeighboursDiffer}

-- a, b stand one behind the other on one of the paths
abbrev pub AreNeighbours : List (List ℕ) → ℕ → ℕ → Type 0
AreNeighbours paths a b = (path : List ℕ) × Contains paths path × HasPair path a b

-- no edge stands twice among the edges, which are those of neighbours
abbrev pub EdgeLaw : Type 0
EdgeLaw =
    (paths : List (List ℕ)) →
    AllPairs ◌≢◌ (edges paths) ×
    ((e : Edge) → Contains (edges paths) e ↔ ((a b : ℕ) × AreNeighbours paths a b × (e ≡ edge_of a b)))

-- what stands behind `prefix` on its path, and the paths behind that one, add edges at the end alone: so edges stand in order of
-- first appearance
abbrev pub EdgeOrderLaw : Type 0
EdgeOrderLaw =
    (paths : List (List ℕ)) (prefix back : List ℕ) (more : List (List ℕ)) →
    (later : List Edge) × (edges (paths ++ (prefix ++ back) ∷ more) ≡ edges (paths ++ prefix ∷ []) ++ later)

-- distinct ASes differ from their neighbours
abbrev pub DifferingLaw : Type 0
DifferingLaw = (path : List ℕ) → AllDistinct path → NeighboursDiffer path
