-- The arcs of clauses are exactly those of the triples of their paths.
use Rattle.std.proofs.Common.{◌≡◌, ℕ, ◌+◌, List, ◌∷◌, [], Some, flat_map, refl, sym, ap, subst, All}
use Rattle.std.specs.Prelude.{slice_get}
use Rattle.relationships.specs.Graph.{edges}
use Rattle.relationships.specs.Evidence.{NeighboursDiffer, IsTriple, TripleAt, paths_of}
use Rattle.relationships.proofs.WalkLemmas.{triple_of_fit}
use Rattle.tor_digraph.specs.Walks.{HasArc}
use Rattle.as_graph.specs.Paths.{path_at, paths_at}
use Rattle.tor_clauses.specs.Literals.{node_of, over, Says}
use Rattle.tor_clauses.specs.Triples.{triples_on}
use Rattle.tor_clauses.specs.Formulas.{Formula, FitsGraph, IsArcOf, numbered}
use Rattle.tor_clauses.specs.ClauseLaws.{ArcLaw}
use Rattle.tor_clauses.proofs.Members.{Contains-In, map-In}
use Rattle.tor_clauses.proofs.LiteralLemmas.{lit_of_node}
use Rattle.tor_clauses.proofs.Arcs.{triple_at}
use Rattle.tor_clauses.proofs.Sames.{triples-once}
use Rattle.tor_clauses.proofs.Standings.{link_fits, arc_there, says_both}

pub numbered_paths : (graph : List (List ℕ)) (paths : List ℕ) → paths_of (numbered graph paths) ≡ paths_at graph paths
numbered_paths graph [] = refl
numbered_paths graph (p ∷ paths) = ap (λ (l : List (List ℕ)). path_at graph p ∷ l) (numbered_paths graph paths)

module _ (graph : List (List ℕ)) (f : Formula) (apart : All NeighboursDiffer graph) (fits : FitsGraph graph f) where
  pub all_arcs : (x y z : ℕ) → IsTriple (paths_at graph f.paths) x y z → (l m : ℕ) × IsArcOf graph l m x y z × HasArc f.net.arcs l m
  all_arcs x y z t =
      let p = map-In (path_at graph) t.0 f.paths (Contains-In t.0 (paths_at graph f.paths) t.1) in
      let at = subst (λ path. TripleAt path t.2.0 x y z) (sym p.2) t.2.1 in
      let says = says_both graph f apart fits p.0 t.2.0 x y z p.1 at in (
        node_of (over (edges graph) x y),
        node_of (over (edges graph) y z),
        record {
          tail = subst (λ l. Says (edges graph) l x y) (sym (lit_of_node (over (edges graph) x y))) says.0;
          head = subst (λ l. Says (edges graph) l y z) (sym (lit_of_node (over (edges graph) y z))) says.1;
        },
        arc_there graph f apart fits p.0 t.2.0 x y z p.1 at,
      )

  pub only_arcs : (l m : ℕ) → HasArc f.net.arcs l m → (x y z : ℕ) × IsArcOf graph l m x y z × IsTriple (paths_at graph f.paths) x y z
  only_arcs l m h =
      let t = triple_at f.triples h.0 (l, m) (subst (λ arcs. slice_get arcs h.0 ≡ Some (l, m)) fits.arcs h.1) in
      let s = link_fits graph f apart fits h.0 l m t.t h.1 t.there in (
        s.x,
        s.y,
        s.z,
        record { tail = s.tail; head = s.head },
        subst (λ ps. IsTriple ps s.x s.y s.z) (numbered_paths graph f.paths)
            (triple_of_fit (numbered graph f.paths) (record { path = t.t.path + 1; at = t.t.at }) s.x s.y s.z s.fits),
      )

pub arc_law : ArcLaw
arc_law graph f apart fits = record {
  all = all_arcs graph f apart fits;
  only = only_arcs graph f apart fits;
  once = λ j k t u h g s. triples-once (flat_map (triples_on graph) f.paths) j k t u (subst (λ ts. slice_get ts j ≡ Some t) fits.triples h) (subst (λ ts. slice_get ts k ≡ Some u) fits.triples g) s;
}
