-- What clauses are seen as, and when they fit a graph: the two-literal clauses of Di Battista, Patrignani and Pizzonia
-- (2003).
use Rattle.std.specs.Prelude.{◌≡◌, ◌⊎◌, ℕ, ◌+◌, ◌*◌, ◌/◌, ◌<◌, ◌≤◌, ◌==◌, List, Some, slice_get, All, length, map, take, flat_map, count_by}
use Rattle.std.specs.List.{list_any}
use Rattle.relationships.specs.declared.label.End.{End}
use Rattle.relationships.specs.declared.walk.Link.{Link}
use Rattle.relationships.specs.Relationship.{Serves}
use Rattle.relationships.specs.Graph.{edges, orientation}
use Rattle.relationships.specs.Evidence.{NeighboursDiffer, Numbered, Fits}
use Rattle.tor_digraph.specs.Walks.{Net, IsArc, first_part}
use Rattle.as_graph.specs.Paths.{path_at, paths_at}
use Rattle.tor_clauses.specs.declared.triple.Triple.{Triple}
use Rattle.tor_clauses.specs.declared.clauses.ClauseMark.{ClauseMark}
use Rattle.tor_clauses.specs.Literals.{lit_of, Says, Holds}
use Rattle.tor_clauses.specs.Triples.{arc_of, partner_of, arcs_of, triples_of}

-- the paths that were added, each as its place in the graph, their distinct triples, and the implication graph of these
pub record Formula : Type 0 where
  pub paths : List ℕ
  pub triples : List Triple
  pub net : Net ℕ

-- a graph, and clauses of its paths
pub record Fit : Type 0 where
  pub graph : List (List ℕ)
  pub formula : Formula

-- the formula is that of its paths in the graph
pub record FitsGraph (graph : List (List ℕ)) (f : Formula) : Type 0 where
  pub there : All (λ path. path < length graph) f.paths
  pub triples : f.triples ≡ triples_of graph f.paths
  -- two nodes for each edge, and two arcs for each triple, in order
  pub nodes : f.net.nodes ≡ length (edges graph) * 2
  pub arcs : f.net.arcs ≡ flat_map arcs_of f.triples

-- ---- where arcs stand

-- how many arcs stand before those of the triple at this place, or behind the last triple: how many there are
abbrev pub arcs_before : Formula → ℕ → ℕ
arcs_before f triple = triple * 2

-- the place of the triple of which the arc at this place is one
abbrev pub triple_place : Formula → ℕ → ℕ
triple_place f arc = arc / 2

-- ---- going back

-- how many paths and triples there are
abbrev pub mark_of : Formula → ClauseMark
mark_of f = record { paths = length f.paths; triples = length f.triples }

-- the first paths and triples, by these counts, with the arcs of these triples
abbrev pub first_of : Formula → ClauseMark → Formula
first_of f mark = record {
  paths = take mark.paths f.paths;
  triples = take mark.triples f.triples;
  net = first_part f.net f.net.nodes (arcs_before f mark.triples);
}

-- so many of the paths, and all triples that are named by these
pub record IsMark (f : Formula) (mark : ClauseMark) : Type 0 where
  pub paths : mark.paths ≤ length f.paths
  pub triples : mark.triples ≡ count_by (λ t. list_any (λ path. path == t.path) (take mark.paths f.paths)) f.triples

-- ---- what holds

-- what an orientation has to serve, by these clauses
abbrev pub demands_of : List (List ℕ) → Formula → List (List ℕ)
demands_of graph f = paths_at graph f.paths

-- the graph's paths at these places are valley-free where its edges have these providers
abbrev pub IsServed : List (List ℕ) → List ℕ → List End → Type 0
IsServed graph paths ends = Serves (orientation (edges graph) ends) (paths_at graph paths)

-- where the edges have these providers, all that an orientation has to serve is served
abbrev pub MeetsDemands : List (List ℕ) → Formula → List End → Type 0
MeetsDemands graph f ends = Serves (orientation (edges graph) ends) (demands_of graph f)

-- no arc leads from a literal that holds to one that does not
abbrev pub IsModel : Formula → List End → Type 0
IsModel f ends = (k l m : ℕ) → IsArc f.net.arcs k l m → Holds ends (lit_of l) → Holds ends (lit_of m)

-- ---- what an arc stands for

-- the arc at this place leads from the triple's first literal to its second, or it is the partner of that
abbrev pub IsArcOfTriple : List (ℕ × ℕ) → ℕ → Triple → Type 0
IsArcOfTriple arcs arc t = (slice_get arcs arc ≡ Some (arc_of t)) ⊎ (slice_get arcs arc ≡ Some (partner_of t))

-- the link names the path and the place of the arc's triple
abbrev pub IsLinkOfTriple : Formula → ℕ → Link → Type 0
IsLinkOfTriple f arc link =
    (t : Triple) → slice_get f.triples (triple_place f arc) ≡ Some t → link ≡ record { path = t.path + 1; at = t.at }

-- the paths at these places of the graph, each numbered by its place there from 1
abbrev pub numbered : List (List ℕ) → List ℕ → Numbered
numbered graph paths = map (λ path. (path + 1, path_at graph path)) paths

-- the paths of these clauses, numbered so
abbrev pub numbered_of : List (List ℕ) → Formula → Numbered
numbered_of graph f = numbered graph f.paths

-- the first node is that of a literal that says "x over y", and the second that of one that says "y over z"
pub record IsArcOf (graph : List (List ℕ)) (l m x y z : ℕ) : Type 0 where
  pub tail : Says (edges graph) (lit_of l) x y
  pub head : Says (edges graph) (lit_of m) y z

-- one literal says "x over y", the other "y over z", and the link names where x, y, z stand on one of the paths
pub record IsLinkOf (graph : List (List ℕ)) (paths : List ℕ) (link : Link) (l m : ℕ) : Type 0 where
  pub x : ℕ
  pub y : ℕ
  pub z : ℕ
  pub tail : Says (edges graph) (lit_of l) x y
  pub head : Says (edges graph) (lit_of m) y z
  pub fits : Fits (numbered graph paths) link x y z

-- the link is one of the arc at this place, in each graph that the formula fits
abbrev pub IsLinkOfArc : Formula → ℕ → Link → Type 0
IsLinkOfArc f arc link = (graph : List (List ℕ)) (l m : ℕ) → All NeighboursDiffer graph → FitsGraph graph f →
    IsArc f.net.arcs arc l m → IsLinkOf graph f.paths link l m
