-- The paths of a graph, by their places.
use Rattle.std.specs.Prelude.{ℕ, ◌-◌, Bool, List, [], length, map, slice_index_or}
use Rattle.std.specs.List.{list_any}
use Rattle.relationships.specs.Graph.{edge_of, is_same, edges}

-- how often three ASes stand one behind the other on the path
abbrev pub triple_count : List ℕ → ℕ
triple_count path = length path - 2

abbrev pub path_at : List (List ℕ) → ℕ → List ℕ
path_at paths place = slice_index_or paths place []

-- the paths of these places, in this order
abbrev pub paths_at : List (List ℕ) → List ℕ → List (List ℕ)
paths_at paths places = map (path_at paths) places

-- the two ASes are neighbours on one of the paths
abbrev pub is_edge : List (List ℕ) → ℕ → ℕ → Bool
is_edge paths a b = list_any (is_same (edge_of a b)) (edges paths)
