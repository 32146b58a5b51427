-- Clauses with one path more, and what an orientation that meets their arcs serves.
use Rattle.std.proofs.Common.{◌≡◌, ℕ, ◌*◌, List, [], ◌∷◌, length, refl, sym, ap, subst, arith, All}
use Rattle.std.proofs.lemmas.Option.{slice_get_within}
use Rattle.relationships.specs.declared.label.End.{End}
use Rattle.relationships.specs.Relationship.{Serves}
use Rattle.relationships.specs.declared.walk.Walk.{Walk}
use Rattle.relationships.specs.Graph.{edges, orientation}
use Rattle.relationships.specs.Evidence.{NeighboursDiffer, Refutes, paths_of}
use Rattle.relationships.specs.Selection.{IsServable}
use Rattle.relationships.specs.Laws.Evidence.{RefutingLaw}
use Rattle.as_graph.specs.Paths.{path_at, paths_at}
use Rattle.tor_clauses.specs.Formulas.{Formula, FitsGraph, IsServed, IsModel, first_of, numbered}
use Rattle.tor_clauses.specs.ClauseLaws.{ModelLaw}
use Rattle.tor_clauses.specs.declared.clauses.ClauseMark.{ClauseMark}
use Rattle.tor_mend.proofs.Prefixes.{earlier_arc}
use Rattle.path_offer.specs.Repairs.{AreMet}

-- ---- the arcs before

pub arcs_met : (f g : Formula) (mark : ClauseMark) → first_of g mark ≡ f → (ends : List End) → IsModel f ends → AreMet g.net.arcs (length f.net.arcs) ends
arcs_met f g mark prefix ends model k l m lt arc = model k l m (earlier_arc f g mark prefix k (l, m) lt arc)

pub met_all : (f : Formula) (ends : List End) → AreMet f.net.arcs (length f.net.arcs) ends → IsModel f ends
met_all f ends met k l m arc = met k l m (slice_get_within f.net.arcs k (l, m) arc) arc

-- ---- serving

module _ (graph : List (List ℕ)) (f : Formula) (ends : List End) (law : ModelLaw) (apart : All NeighboursDiffer graph) (fits : FitsGraph graph f) (many : length ends * 2 ≡ f.net.nodes) where
  pub as_many : length ends ≡ length (edges graph)
  as_many = let nodes = fits.nodes in omega (arith, nodes, many)

  pub served : IsModel f ends → IsServed graph f.paths ends
  served model = (law graph f ends apart fits as_many).1 model

  pub servable : IsModel f ends → IsServable (paths_at graph f.paths)
  servable model = (orientation (edges graph) ends, served model)

pub paths_of-numbered : (graph : List (List ℕ)) (places : List ℕ) → paths_of (numbered graph places) ≡ paths_at graph places
paths_of-numbered graph [] = refl
paths_of-numbered graph (p ∷ places) = ap (λ (l : List (List ℕ)). path_at graph p ∷ l) (paths_of-numbered graph places)

pub not_servable : (graph : List (List ℕ)) (paths : List ℕ) (w : Walk) → RefutingLaw → Refutes (numbered graph paths) w → IsServable (paths_at graph paths) → ⊥
not_servable graph paths w law refutes s = law (numbered graph paths) w refutes s.0 (subst (Serves s.0) (sym (paths_of-numbered graph paths)) s.1)
