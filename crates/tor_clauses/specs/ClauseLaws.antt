-- The laws of clauses that fit a graph, each proved as the contract of a function in src/laws.rt.
use Rattle.std.specs.Prelude.{◌≡◌, ◌↔◌, ◌⊎◌, ℕ, List, Some, All, length, take, slice_get, ◌≤◌}
use Rattle.relationships.specs.declared.label.End.{End}
use Rattle.relationships.specs.Graph.{edges}
use Rattle.relationships.specs.Evidence.{NeighboursDiffer, IsTriple}
use Rattle.tor_digraph.specs.Walks.{HasArc}
use Rattle.tor_clauses.specs.declared.triple.Triple.{Triple}
use Rattle.tor_clauses.specs.Triples.{arc_of, partner_of}
use Rattle.tor_clauses.specs.Formulas.{Formula, FitsGraph, IsModel, IsMark, IsArcOf, mark_of, first_of, demands_of, MeetsDemands}

-- the paths are served exactly if no arc leads from a literal that holds to one that does not
abbrev pub ModelLaw : Type 0
ModelLaw =
    (graph : List (List ℕ)) (f : Formula) (ends : List End) → All NeighboursDiffer graph → FitsGraph graph f →
    length ends ≡ length (edges graph) → MeetsDemands graph f ends ↔ IsModel f ends

-- the arcs are exactly those of the triples of the paths, and each triple stands once
pub record HasExactArcs (graph : List (List ℕ)) (f : Formula) : Type 0 where
  -- each triple of the paths has an arc
  pub all : (x y z : ℕ) → IsTriple (demands_of graph f) x y z → (l m : ℕ) × IsArcOf graph l m x y z × HasArc f.net.arcs l m
  -- each arc is that of a triple of the paths
  pub only : (l m : ℕ) → HasArc f.net.arcs l m → (x y z : ℕ) × IsArcOf graph l m x y z × IsTriple (demands_of graph f) x y z
  -- triples at two places are not the same, nor is one the reverse of the other
  pub once : (j k : ℕ) (t u : Triple) → slice_get f.triples j ≡ Some t → slice_get f.triples k ≡ Some u →
      (arc_of t ≡ arc_of u) ⊎ (arc_of t ≡ partner_of u) → j ≡ k

abbrev pub ArcLaw : Type 0
ArcLaw = (graph : List (List ℕ)) (f : Formula) → All NeighboursDiffer graph → FitsGraph graph f → HasExactArcs graph f

-- clauses are the first part, by their own counts, of those that have their paths first
abbrev pub PrefixLaw : Type 0
PrefixLaw =
    (graph : List (List ℕ)) (f g : Formula) → FitsGraph graph f → FitsGraph graph g →
    length f.paths ≤ length g.paths → f.paths ≡ take (length f.paths) g.paths →
    IsMark g (mark_of f) × (f ≡ first_of g (mark_of f))
