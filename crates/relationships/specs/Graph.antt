-- The annotated AS graph (Gao 2001) of a list of paths: its edges, how many each AS has, and what annotates them.
use Rattle.std.specs.Prelude.{◌≡◌, All, ℕ, Bool, not, ◌&&◌, ◌||◌, ◌==◌, List, [], ◌∷◌, min, max, filter, flat_map, count_by, if◌then◌else◌}
use Rattle.std.specs.List.{list_any}
use Rattle.relationships.specs.declared.label.End.{End}
use Rattle.relationships.specs.declared.label.Label.{Label}
use Rattle.relationships.specs.Relationship.{Orientation, Labelling}

-- an edge is two neighbours, the lower number first
abbrev pub Edge : Type 0
Edge = ℕ × ℕ

abbrev pub edge_of : ℕ → ℕ → Edge
edge_of a b = (min a b, max a b)

abbrev pub is_same : ℕ × ℕ → ℕ × ℕ → Bool
is_same e f = (e.0 == f.0) && (e.1 == f.1)

-- the edges along a path that begins at a
abbrev pub edges_from : ℕ → List ℕ → List Edge
edges_from a [] = []
edges_from a (b ∷ path) = edge_of a b ∷ edges_from b path

abbrev pub edges_on : List ℕ → List Edge
edges_on [] = []
edges_on (a ∷ path) = edges_from a path

-- each edge where it first appears, and nowhere else
abbrev pub distinct : List Edge → List Edge
distinct [] = []
distinct (e ∷ es) = e ∷ filter (λ f. not (is_same e f)) (distinct es)

-- the edges of the paths, in order of first appearance
abbrev pub edges : List (List ℕ) → List Edge
edges paths = distinct (flat_map edges_on paths)

-- how many edges hold the AS
abbrev pub degree : List (List ℕ) → ℕ → ℕ
degree paths a = count_by (λ e. (e.0 == a) || (e.1 == a)) (edges paths)

-- how many of the paths hold the edge
abbrev pub support : List (List ℕ) → Edge → ℕ
support paths e = count_by (λ path. list_any (is_same e) (edges_on path)) paths

-- the orientation that gives the edges these providers, one each, and the labelling that gives them these labels
abbrev pub orientation : List Edge → List End → Orientation
orientation (e ∷ es) (end ∷ ends) low high = if is_same e (low, high) then end else orientation es ends low high
orientation _ _ low high = End.Low

abbrev pub labelling : List Edge → List Label → Labelling
labelling (e ∷ es) (label ∷ labels) low high = if is_same e (low, high) then label else labelling es labels low high
labelling _ _ low high = Label.Peer

-- the two orientations give these edges the same providers
abbrev pub SameOn : List Edge → Orientation → Orientation → Type 0
SameOn es O O' = All (λ (e : Edge). O e.0 e.1 ≡ O' e.0 e.1) es
