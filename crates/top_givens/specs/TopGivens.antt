-- What is known where some networks are known to buy transit from nobody: each of them is the provider of all its neighbours that are none of
-- them. The field calls them the top of the hierarchy, or tier 1 (L. Gao, "On inferring autonomous system relationships in the Internet",
-- 2001; M. Luckie et al., "AS relationships, customer cones, and validation", 2013, begin with their clique). Of two of them nothing is known.
use Rattle.std.specs.Prelude.{ℕ, Bool, not, ◌&&◌, ◌==◌, if◌then◌else◌, List, ◌++◌, map, filter}
use Rattle.std.specs.List.{list_any}
use Rattle.relationships.specs.declared.given.Given.{Given}
use Rattle.relationships.specs.Graph.{Edge, edge_of, is_same, edges}

-- the AS is one of the top
abbrev pub is_top : List ℕ → ℕ → Bool
is_top top a = list_any (λ b. b == a) top

-- exactly one end of the edge is
abbrev pub has_one_top : List ℕ → Edge → Bool
has_one_top top e = if is_top top e.0 then not (is_top top e.1) else is_top top e.1

-- one AS is over the other
abbrev pub given_over : ℕ → ℕ → Given
given_over over under = record { over = over; under = under }

-- the end of the edge that is one of the top is over the other
abbrev pub top_given : List ℕ → Edge → Given
top_given top e = if is_top top e.0 then given_over e.0 e.1 else given_over e.1 e.0

-- one of these pairs of ASes, in either order, is the two of the edge
abbrev pub is_paired : List (ℕ × ℕ) → Edge → Bool
is_paired pairs e = list_any (λ p. is_same e (edge_of p.0 p.1)) pairs

-- exactly one end of the edge is one of the top, and none of these pairs is its two
abbrev pub is_bound : List ℕ → List (ℕ × ℕ) → Edge → Bool
is_bound top named e = has_one_top top e && not (is_paired named e)

-- what is known of the edges of the paths, in their order
abbrev pub top_givens : List ℕ → List (ℕ × ℕ) → List (List ℕ) → List Given
top_givens top named paths = map (top_given top) (filter (is_bound top named) (edges paths))

-- the two that each given names
abbrev pub given_pairs : List Given → List (ℕ × ℕ)
given_pairs givens = map (λ g. (g.over, g.under)) givens

-- what is known on top of a result with these givens and these first paths: no edge of its paths is bound, and none that it names
abbrev pub top_givens_behind : List ℕ → List Given → (earlier paths : List (List ℕ)) → List Given
top_givens_behind top givens earlier paths = top_givens top (given_pairs givens ++ edges earlier) paths
