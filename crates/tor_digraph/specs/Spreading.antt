-- Sets of nodes, and what a search over the arcs adds to one. A reader of a public clause needs only IsClosed.
use Rattle.std.specs.Prelude.{◌≡◌, ◌⊎◌, ℕ, ◌≤◌, List, [], ◌∷◌, ◌++◌, Some, slice_get, length, Contains}
use Rattle.tor_digraph.specs.Walks.{HasArc}

-- the old nodes are the first of the new ones
abbrev pub Stays : List ℕ → List ℕ → Type 0
Stays old new = (k x : ℕ) → slice_get old k ≡ Some x → slice_get new k ≡ Some x

-- the nodes with one more, unless it is there, or one past which a search does not go
abbrev pub IsEntered : List ℕ → ℕ → List ℕ → List ℕ → Type 0
IsEntered past node old new = ((Contains old node ⊎ Contains past node) × (new ≡ old)) ⊎ (new ≡ old ++ node ∷ [])

-- the heads of the arcs of a node were met
pub record HasLooked (arcs : List (ℕ × ℕ)) (past : List ℕ) (tail : ℕ) (old new : List ℕ) : Type 0 where
  pub kept : Stays old new
  pub more : (k x : ℕ) → length old ≤ k → slice_get new k ≡ Some x → HasArc arcs tail x
  pub heads : (x : ℕ) → HasArc arcs tail x → Contains new x ⊎ Contains past x

-- an arc out of these nodes leads to one of those past which a search does not go
abbrev pub IsClosed : List (ℕ × ℕ) → List ℕ → List ℕ → Type 0
IsClosed arcs past nodes = (x y : ℕ) → Contains nodes x → HasArc arcs x y → Contains nodes y ⊎ Contains past y
