-- The paths are served exactly if no arc leads from a literal that holds to one that does not.
use Rattle.std.proofs.Common.{◌≡◌, ◌↔◌, ℕ, ◌<◌, List, [], length, All}
use Rattle.std.proofs.lemmas.List.Elements.{All-map, All-weaker}
use Rattle.relationships.specs.declared.label.End.{End}
use Rattle.relationships.specs.Evidence.{NeighboursDiffer}
use Rattle.relationships.specs.Relationship.{Orientation}
use Rattle.relationships.specs.Graph.{Edge, edges, orientation}
use Rattle.relationships.specs.Laws.Serving.{SatisfiesTriples}
use Rattle.relationships.proofs.Serving.{serves_satisfies, satisfies_serves}
use Rattle.as_graph.specs.Paths.{path_at, paths_at}
use Rattle.tor_clauses.specs.Literals.{lit_of}
use Rattle.tor_clauses.specs.Formulas.{Formula, FitsGraph, IsServed, IsModel}
use Rattle.tor_clauses.specs.ClauseLaws.{ModelLaw}
use Rattle.tor_clauses.proofs.Overs.{edges-apart, over-holds, holds-over}
use Rattle.tor_clauses.proofs.Exacts.{all_arcs, only_arcs}

-- the paths of clauses are distinct in their ASes
pub paths_apart : (graph : List (List ℕ)) (f : Formula) → All NeighboursDiffer graph → FitsGraph graph f → All NeighboursDiffer (paths_at graph f.paths)
paths_apart graph f apart fits =
    All-map NeighboursDiffer (path_at graph) f.paths (All-weaker (λ p. p < length graph) (λ p. NeighboursDiffer (path_at graph p)) (λ p below. apart p [] below) f.paths fits.there)

module _ (graph : List (List ℕ)) (f : Formula) (ends : List End) (apart : All NeighboursDiffer graph) (fits : FitsGraph graph f) (same : length ends ≡ length (edges graph)) where
  abbrev es : List Edge
  es = edges graph

  abbrev O : Orientation
  O = orientation es ends

  model_from_triples : SatisfiesTriples O (paths_at graph f.paths) → IsModel f ends
  model_from_triples c k l m arc h =
      let a = only_arcs graph f apart fits l m (k, arc) in
      let o = over-holds es ends (edges-apart graph) (lit_of l) a.0 a.1 a.3.tail h in
      holds-over es ends (edges-apart graph) same (lit_of m) a.1 a.2 a.3.head (c a.0 a.1 a.2 a.4 o)

  triples_from_model : IsModel f ends → SatisfiesTriples O (paths_at graph f.paths)
  triples_from_model model x y z t o =
      let a = all_arcs graph f apart fits x y z t in
      let h = holds-over es ends (edges-apart graph) same (lit_of a.0) x y a.2.tail o in
      over-holds es ends (edges-apart graph) (lit_of a.1) y z a.2.head (model a.3.0 a.0 a.1 a.3.1 h)

  pub model_iff : IsServed graph f.paths ends ↔ IsModel f ends
  model_iff = (
    (λ serves. model_from_triples (serves_satisfies O (paths_at graph f.paths) serves)),
    (λ model. satisfies_serves O (paths_at graph f.paths) (paths_apart graph f apart fits) (triples_from_model model)),
  )

pub model_law : ModelLaw
model_law graph f ends apart fits same = model_iff graph f ends apart fits same
