-- Lists of edges that grow by one edge at a time, each edge standing once.
use Rattle.std.specs.Prelude.{ℕ, List, [], ◌∷◌, ◌++◌, fold, map, slice_index_or, if◌then◌else◌}
use Rattle.std.specs.List.{list_any}
use Rattle.relationships.specs.Graph.{Edge, is_same}
use Rattle.tor_numbers.specs.EdgeNumbers.{edge_numbered}

-- a new edge goes last, and one that is there is not added again
abbrev pub with_edge : List Edge → Edge → List Edge
with_edge es e = if list_any (is_same e) es then es else es ++ e ∷ []

-- the same with all of these, in order
abbrev pub with_edges : List Edge → List Edge → List Edge
with_edges es more = fold with_edge es more

-- the edge in a place
abbrev pub edge_at : List Edge → ℕ → Edge
edge_at es k = slice_index_or es k (0, 0)

-- the edges of numbers
abbrev pub edges_numbered : List ℕ → List Edge
edges_numbered numbers = map edge_numbered numbers
