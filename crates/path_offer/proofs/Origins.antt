-- What an offered path changes is reached from a literal of one of its edges, and nothing is changed where it was served.
use Rattle.std.proofs.Common.{◌≡◌, ℕ, ◌+◌, ◌*◌, ◌/◌, ◌≤◌, inl, inr, Bool, true, false, if◌then◌else◌, List, [], ◌∷◌, ◌++◌, Some, length, flat_map, refl, sym, ap, ◌∙◌, subst, arith, append_assoc, All}
use Rattle.std.specs.Prelude.{slice_get}
use Rattle.std.proofs.lemmas.Bool.{cases_eq}
use Rattle.std.proofs.lemmas.List.{length_push, map-append, append-nil}
use Rattle.std.proofs.lemmas.List.Concat.{flat_map-append}
use Rattle.std.proofs.lemmas.List.Elements.{All-append}
use Rattle.relationships.specs.declared.label.End.{End}
use Rattle.relationships.specs.Evidence.{NeighboursDiffer}
use Rattle.relationships.specs.Relationship.{ValleyFree, labels_of}
use Rattle.relationships.specs.Graph.{Edge, edges, orientation}
use Rattle.tor_digraph.specs.Walks.{IsArc}
use Rattle.tor_arena.proofs.Gets.{slice_get-push_old, slice_get-push_last}
use Rattle.as_graph.specs.Paths.{path_at, paths_at}
use Rattle.tor_clauses.specs.declared.triple.Triple.{Triple}
use Rattle.tor_clauses.specs.Literals.{Literal, negated, node_of, lit_of, opposite_node, Says}
use Rattle.tor_clauses.specs.Triples.{triples_on, triples_of, distinct_triples, is_same_triple}
use Rattle.std.specs.List.{list_any}
use Rattle.std.proofs.lemmas.Option.{slice_get_within}
use Rattle.tor_clauses.specs.Tables.{with_triple, with_triples}
use Rattle.tor_clauses.specs.Formulas.{Formula, FitsGraph, IsServed, IsModel}
use Rattle.tor_clauses.specs.ClauseLaws.{ModelLaw}
use Rattle.tor_clauses.proofs.Members.{In}
use Rattle.tor_clauses.proofs.LiteralLemmas.{lit_of_node}
use Rattle.tor_clauses.proofs.Sames.{with_triples-distinct, triples-more}
use Rattle.tor_clauses.proofs.Arcs.{length-arcs, triple_at}
use Rattle.tor_clauses.proofs.Standings.{Stands, stands_along, says_first, says_second}
use Rattle.path_offer.specs.Repairs.{IsRepaired}
use Rattle.path_offer.specs.Choices.{IsEdgeOn, ChangesFrom}
use Rattle.tor_clauses.proofs.Sides.{edge_opposite}
use Rattle.tor_clauses.proofs.Ways.{some_same}

-- ---- the triples that a path adds

step_In : (m : Triple) (more ts us : List Triple) (k : ℕ) (t : Triple) (b : Bool) → us ≡ (if b then ts else ts ++ m ∷ []) → length ts ≤ k → slice_get (with_triples us more) k ≡ Some t →
    (length us ≤ k → In t more) → In t (m ∷ more)
step_In m more ts us k t true e le at hyp = inr (hyp (let same = ap length e in omega (arith, same, le)))
step_In m more ts us k t false e le at hyp =
    let many : length us ≡ length ts + 1 = ap length e ∙ length_push ts m in
    elim (cases_eq k (length ts)) [
      | inl here ↦ (
          let r = triples-more more us in
          let own : slice_get us k ≡ Some m = ap (λ (l : List Triple). slice_get l k) e ∙ ap (slice_get (ts ++ m ∷ [])) here ∙ slice_get-push_last ts m in
          let there : slice_get (with_triples us more) k ≡ Some m = ap (λ (l : List Triple). slice_get l k) r.whole ∙ slice_get-push_old us r.more k m own in
          inl (some_same (sym there ∙ at))
          )
      | inr later ↦ inr (hyp (omega (arith, many, le, later)))
    ]

new_In : (more ts : List Triple) (k : ℕ) (t : Triple) → length ts ≤ k → slice_get (with_triples ts more) k ≡ Some t → In t more
new_In [] ts k t le at = let lt = slice_get_within ts k t at in absurd (omega (arith, lt, le))
new_In (m ∷ more) ts k t le at = step_In m more ts (with_triple ts m) k t (list_any (is_same_triple m) ts) refl le at (λ many. new_In more (with_triple ts m) k t many at)

In-last : (paths : List ℕ) (path : ℕ) → In path (paths ++ path ∷ [])
In-last [] path = inl refl
In-last (p ∷ paths) path = inr (In-last paths path)

module _ (graph : List (List ℕ)) (f g : Formula) (path : ℕ) (apart : All NeighboursDiffer graph) (fits : FitsGraph graph f) (more : FitsGraph graph g) (paths : g.paths ≡ f.paths ++ path ∷ []) where
  all_triples : g.triples ≡ with_triples f.triples (triples_on graph path)
  all_triples =
      more.triples ∙ ap (triples_of graph) paths ∙
      ap distinct_triples (flat_map-append (triples_on graph) f.paths (path ∷ []) ∙ ap (λ (l : List Triple). flat_map (triples_on graph) f.paths ++ l) (append-nil (triples_on graph path))) ∙
      sym (with_triples-distinct (triples_on graph path) (flat_map (triples_on graph) f.paths)) ∙
      ap (λ (l : List Triple). with_triples l (triples_on graph path)) (sym fits.triples)

  -- a triple behind the old ones is one of the path
  new_triple : (k : ℕ) (t : Triple) → length f.triples ≤ k → slice_get g.triples k ≡ Some t → Stands (edges graph) path (path_at graph path) t
  new_triple k t le at =
      stands_along (edges graph) path (path_at graph path) t
      (new_In (triples_on graph path) f.triples k t le (ap (λ (l : List Triple). slice_get l k) (sym all_triples) ∙ at))

  there : In path g.paths
  there = subst (In path) (sym paths) (In-last f.paths path)

  edge_first : (t : Triple) → Stands (edges graph) path (path_at graph path) t → IsEdgeOn graph path t.first.edge
  edge_first t s =
      let says = subst (λ l. Says (edges graph) l s.x s.y) (sym s.first) (says_first graph g apart more path t.at s.x s.y s.z there s.stand) in
      (s.x, s.y, (s.stand.before, s.z ∷ s.stand.after, s.stand.whole), says.edge)

  edge_second : (t : Triple) → Stands (edges graph) path (path_at graph path) t → IsEdgeOn graph path t.second.edge
  edge_second t s =
      let says = subst (λ l. Says (edges graph) l s.y s.z) (sym s.second) (says_second graph g apart more path t.at s.x s.y s.z there s.stand) in
      (s.y, s.z, (s.stand.before ++ s.x ∷ [], s.stand.after, s.stand.whole ∙ sym (append_assoc s.stand.before (s.x ∷ []) (s.y ∷ s.z ∷ s.stand.after))), says.edge)

  at_edge : (n : ℕ) (l : Literal) → n ≡ node_of l → IsEdgeOn graph path l.edge → IsEdgeOn graph path (n / 2)
  at_edge n l is on = subst (IsEdgeOn graph path) (sym (ap (λ m. (lit_of m).edge) is ∙ ap (λ (m : Literal). m.edge) (lit_of_node l))) on

  -- both ends of a new arc are literals of edges of the path
  new_arc : (k l m : ℕ) → length f.net.arcs ≤ k → IsArc g.net.arcs k l m → IsEdgeOn graph path (l / 2) × IsEdgeOn graph path (m / 2)
  new_arc k l m le arc =
      let many = ap length fits.arcs ∙ length-arcs f.triples in
      let r = triple_at g.triples k (l, m) (subst (λ arcs. slice_get arcs k ≡ Some (l, m)) more.arcs arc) in
      let s = new_triple (k / 2) r.t (omega (arith, many, le)) r.there in
      elim r.is [
        | inl e ↦ (at_edge l r.t.first (ap (λ (a : Edge). a.0) e) (edge_first r.t s), at_edge m r.t.second (ap (λ (a : Edge). a.1) e) (edge_second r.t s))
        | inr e ↦ (at_edge l (negated r.t.second) (ap (λ (a : Edge). a.0) e) (edge_second r.t s), at_edge m (negated r.t.first) (ap (λ (a : Edge). a.1) e) (edge_first r.t s))
      ]

  pub changes_from : (old new : List End) → IsRepaired g.net.arcs (length f.net.arcs) (length g.net.arcs) old new → ChangesFrom graph path g.net.arcs old new
  changes_from old new repaired x holds not =
      let c = repaired.changed x holds not in
      let touched = c.2 in
      let on = new_arc c.0 touched.0 touched.1 c.1 touched.2 in
      elim touched.3 [
        | inl reach ↦ (touched.1, on.1, reach)
        | inr reach ↦ (opposite_node touched.0, subst (IsEdgeOn graph path) (sym (edge_opposite touched.0)) on.0, reach)
      ]

  -- where the path was served, all arcs were met
  pub unchanged : (old new : List End) → ModelLaw → length old * 2 ≡ f.net.nodes → IsModel f old → IsRepaired g.net.arcs (length f.net.arcs) (length g.net.arcs) old new →
      IsServed graph (path ∷ []) old → new ≡ old
  unchanged old new law many model repaired serves =
      let nodes = fits.nodes in
      let same : length old ≡ length (edges graph) = omega (arith, nodes, many) in
      let before : IsServed graph f.paths old = (law graph f old apart fits same).1 model in
      let both = All-append (ValleyFree (labels_of (orientation (edges graph) old))) (paths_at graph f.paths) (paths_at graph (path ∷ [])) before serves in
      let all : IsServed graph g.paths old =
      subst (λ ps. IsServed graph ps old) (sym paths) (subst (All (ValleyFree (labels_of (orientation (edges graph) old)))) (sym (map-append (path_at graph) f.paths (path ∷ []))) both) in
      let met = (law graph g old apart more same).0 all in
      repaired.same (λ k l m lt arc. met k l m arc)

-- nothing is changed
pub changes_none : (graph : List (List ℕ)) (path : ℕ) (arcs : List (ℕ × ℕ)) (old new : List End) → new ≡ old → ChangesFrom graph path arcs old new
changes_none graph path arcs old new same x holds not = absurd (not (ap (λ (l : List End). slice_get l (x / 2)) (sym same) ∙ holds))
