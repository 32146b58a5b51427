-- The edges that edge lines name, and what is known of them where the rules on paths and on edge lines are met.
use Rattle.std.specs.Prelude.{◌≡◌, ℕ, ◌+◌, ◌<◌, List, length, map, Some, All, Contains, slice_get, slice_index}
use Rattle.relationships.specs.Graph.{Edge, edge_of}
use Rattle.result_text.specs.declared.file.EdgeLine.{EdgeLine}

-- the edges of the lines, in order
abbrev pub edges_of : List EdgeLine → List Edge
edges_of lines = map (λ e. (e.low, e.high)) lines

-- no edge stands twice, and the lower number comes first
pub record AreApart (lines : List EdgeLine) : Type 0 where
  pub rising : All (λ line. line.low < line.high) lines
  pub once : (i j : ℕ) (e : Edge) → slice_get (edges_of lines) i ≡ Some e → slice_get (edges_of lines) j ≡ Some e → i ≡ j

-- each two neighbours on the path are an edge
abbrev pub IsListed : List Edge → List ℕ → Type 0
IsListed es path = (k : ℕ) → k + 1 < length path → Contains es (edge_of (slice_index path k) (slice_index path (k + 1)))
