-- The triples of paths, each three consecutive ASes x, y, z, where "x over y" implies "y over z": the two-literal
-- clauses of Di Battista, Patrignani and Pizzonia (2003).
use Rattle.std.specs.Prelude.{ℕ, ◌+◌, Bool, not, ◌||◌, List, [], ◌∷◌, ◌≡◌, true, All, filter, flat_map}
use Rattle.std.specs.List.{list_any}
use Rattle.relationships.specs.Graph.{Edge, is_same, edges}
use Rattle.as_graph.specs.Paths.{path_at}
use Rattle.tor_clauses.specs.declared.triple.Triple.{Triple}
use Rattle.tor_clauses.specs.Literals.{negated, node_of, over}

-- the triples along a path whose ASes are x and y and the rest, y at this place from 1
abbrev pub triples_from : List Edge → ℕ → ℕ → ℕ → ℕ → List ℕ → List Triple
triples_from es path at x y [] = []
triples_from es path at x y (z ∷ rest) =
    record { path = path; at = at; first = over es x y; second = over es y z } ∷ triples_from es path (at + 1) y z rest

abbrev pub triples_along : List Edge → ℕ → List ℕ → List Triple
triples_along es path [] = []
triples_along es path (x ∷ []) = []
triples_along es path (x ∷ y ∷ rest) = triples_from es path 2 x y rest

-- the triples of the path at this place of the graph
abbrev pub triples_on : List (List ℕ) → ℕ → List Triple
triples_on graph path = triples_along (edges graph) path (path_at graph path)

-- ---- their two implications

-- from the first literal to the second
abbrev pub arc_of : Triple → ℕ × ℕ
arc_of t = (node_of t.first, node_of t.second)

-- from the negation of the second to the negation of the first, as the reverse of the triple has it
abbrev pub partner_of : Triple → ℕ × ℕ
partner_of t = (node_of (negated t.second), node_of (negated t.first))

abbrev pub arcs_of : Triple → List (ℕ × ℕ)
arcs_of t = arc_of t ∷ partner_of t ∷ []

-- ---- distinct triples

-- one has the literals of the other, or of its reverse
abbrev pub is_same_triple : Triple → Triple → Bool
is_same_triple t u = is_same (arc_of t) (arc_of u) || is_same (arc_of t) (partner_of u)

-- the triple is among these, or its reverse is
abbrev pub is_among : List Triple → Triple → Bool
is_among ts t = list_any (is_same_triple t) ts

-- and so is each of the second ones
abbrev pub AreAmong : List Triple → List Triple → Type 0
AreAmong ts more = All (λ t. is_among ts t ≡ true) more

-- each triple where it first appears, and nowhere else, reverses counted as one
abbrev pub distinct_triples : List Triple → List Triple
distinct_triples [] = []
distinct_triples (t ∷ ts) = t ∷ filter (λ u. not (is_same_triple t u)) (distinct_triples ts)

-- the distinct triples of the paths at these places of the graph, each named by the first of them that has it, in their order
abbrev pub triples_of : List (List ℕ) → List ℕ → List Triple
triples_of graph paths = distinct_triples (flat_map (triples_on graph) paths)
