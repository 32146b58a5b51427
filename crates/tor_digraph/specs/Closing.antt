-- The order in which a depth-first search leaves nodes for good, which is that of Kosaraju's and Sharir's
-- strong components by two searches (Sharir, A strong-connectivity algorithm and its applications in data flow
-- analysis, 1981).
use Rattle.std.specs.Prelude.{◌≡◌, ℕ, ◌<◌, ◌≤◌, ◌⊎◌, List, Some, slice_get}
use Rattle.tor_digraph.specs.Walks.{HasArc, Reaches}

module _ {X : Type 0} where
  -- x stands in the list
  abbrev pub Has : List X → X → Type 0
  Has xs x = (k : ℕ) × (slice_get xs k ≡ Some x)

  -- x stands in the list before place k
  abbrev pub HasBefore : List X → ℕ → X → Type 0
  HasBefore xs k x = (j : ℕ) × (j < k) × (slice_get xs j ≡ Some x)

  -- nothing stands in the list twice
  abbrev pub IsOnce : List X → Type 0
  IsOnce xs = (i j : ℕ) (x : X) → slice_get xs i ≡ Some x → slice_get xs j ≡ Some x → i ≡ j

-- up to each node of the list, an arc leads to an earlier node or to one that reaches the node
pub record IsClosing {N : Type 0} (arcs : List (N × N)) (nodes : List N) : Type 0 where
  pub once : IsOnce nodes
  pub exits : (k : ℕ) (x : N) → slice_get nodes k ≡ Some x → (i : ℕ) (u v : N) → i ≤ k → slice_get nodes i ≡ Some u →
      HasArc arcs u v → HasBefore nodes k v ⊎ Reaches arcs v x
