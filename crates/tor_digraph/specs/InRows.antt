-- The arcs of a digraph in rows, those of each node next to each other. These words are the digraph's own: no reader of a public
-- clause needs them but IsRow and count_at.
use Rattle.std.specs.Prelude.{◌≡◌, ℕ, ◌+◌, ◌<◌, ◌≤◌, List, Some, slice_get, length, nat_eq, nat_lt, take}
use Rattle.std.specs.List.{count_by}
use Rattle.tor_digraph.specs.Walks.{IsArc}

module _ {N : Type 0} (place : N → ℕ) where
  -- how many of the arcs leave the node of a place
  abbrev pub count_at : List (N × N) → ℕ → ℕ
  count_at arcs u = count_by (λ e. nat_eq (place e.0) u) arcs

  -- how many of the arcs leave the nodes of the places before this one
  abbrev pub count_before : List (N × N) → ℕ → ℕ
  count_before arcs u = count_by (λ e. nat_lt (place e.0) u) arcs

-- the arcs that leave a node, each with its head
pub record IsRow {N A : Type 0} (spot : A → ℕ) (arcs : List (N × N)) (node : N) (row : List (A × N)) : Type 0 where
  pub only : (j : ℕ) (e : A × N) → slice_get row j ≡ Some e → IsArc arcs (spot e.0) node e.1
  pub each : (k : ℕ) (head : N) → IsArc arcs k node head → (j : ℕ) × (a : A) × (slice_get row j ≡ Some (a, head)) × (spot a ≡ k)

module _ {N A : Type 0} (place : N → ℕ) (spot : A → ℕ) (arcs : List (N × N)) where
  -- of each node the arcs behind the first `left` stand at the end of its row, which begins where those of the nodes before it end
  pub record IsFilled (left : ℕ) (starts : List ℕ) (rows : List (A × N)) : Type 0 where
    pub starts_at : (u s : ℕ) → slice_get starts u ≡ Some s → s ≡ count_before place arcs u + count_at place (take left arcs) u
    pub as_many : length rows ≡ length arcs
    pub only : (u : N) (p : ℕ) (e : A × N) → count_before place arcs (place u) + count_at place (take left arcs) (place u) ≤ p →
        p < count_before place arcs (place u + 1) → slice_get rows p ≡ Some e → IsArc arcs (spot e.0) u e.1
    pub each : (k : ℕ) (u v : N) → left ≤ k → IsArc arcs k u v → (p : ℕ) × (a : A) ×
        (count_before place arcs (place u) + count_at place (take left arcs) (place u) ≤ p) × (p < count_before place arcs (place u + 1)) ×
        (slice_get rows p ≡ Some (a, v)) × (spot a ≡ k)

-- all arcs stand in their rows
pub record IsInRows {N A : Type 0} (place : N → ℕ) (spot : A → ℕ) (nodes : ℕ) (arcs : List (N × N)) (starts : List ℕ)
    (rows : List (A × N)) : Type 0 where
  pub many : length starts ≡ nodes + 1
  pub filled : IsFilled place spot arcs 0 starts rows
