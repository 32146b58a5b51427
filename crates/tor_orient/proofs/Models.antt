-- Orientations that serve, as lists of ends.
use Rattle.std.proofs.Common.{◌≡◌, ℕ, ◌*◌, ◌/◌, ◌<◌, inl, inr, min, max, true, List, Some, length, map, sym, ap, ap₂, ◌∙◌, arith, All}
use Rattle.std.specs.Prelude.{slice_get}
use Rattle.std.proofs.lemmas.List.{length-map}
use Rattle.std.proofs.lemmas.List.Elements.{All-contains}
use Rattle.relationships.specs.declared.label.End.{End}
use Rattle.relationships.specs.Evidence.{NeighboursDiffer}
use Rattle.relationships.specs.Relationship.{Orientation, Serves, label_of, labels_of, is_low, is_high, is_over}
use Rattle.relationships.specs.Selection.{IsServable}
use Rattle.relationships.specs.Graph.{Edge, edge_of, edges, orientation}
use Rattle.relationships.proofs.Places.{listed}
use Rattle.relationships.proofs.Slopes.{over_parts, over-low, over-high}
use Rattle.relationships.proofs.Serving.{serves_satisfies}
use Rattle.tor_arena.proofs.Gets.{Contains-from_has}
use Rattle.as_graph.specs.Paths.{paths_at}
use Rattle.tor_clauses.specs.Literals.{lit_of}
use Rattle.tor_clauses.specs.Formulas.{Formula, FitsGraph, IsModel}
use Rattle.tor_clauses.proofs.Overs.{edges-apart, over-holds, holds-over}
use Rattle.tor_clauses.proofs.Exacts.{only_arcs}
use Rattle.tor_clauses.proofs.Sides.{holds_one, holds_either}
use Rattle.tor_orient.specs.Steps.{IsWhole}
use Rattle.tor_orient.proofs.Settled.{OneWay, model_along}

-- what is over depends on the edge alone
over_same : (O O' : Orientation) (x y : ℕ) → O (min x y) (max x y) ≡ O' (min x y) (max x y) → is_over (labels_of O) x y ≡ true → is_over (labels_of O') x y ≡ true
over_same O O' x y same over = elim (over_parts (labels_of O) x y over) [
  | inl p ↦
      let lt = p.0 in
      let low : min x y ≡ x = omega (arith, lt) in
      let high : max x y ≡ y = omega (arith, lt) in
      let here : O x y ≡ O' x y = ap₂ O (sym low) (sym high) ∙ same ∙ ap₂ O' low high in
      over-low (labels_of O') x y lt (ap (λ a. is_low (label_of a)) (sym here) ∙ p.1)
  | inr p ↦
      let lt = p.0 in
      let low : min x y ≡ y = omega (arith, lt) in
      let high : max x y ≡ x = omega (arith, lt) in
      let here : O y x ≡ O' y x = ap₂ O (sym low) (sym high) ∙ same ∙ ap₂ O' low high in
      over-high (labels_of O') y x lt (ap (λ a. is_high (label_of a)) (sym here) ∙ p.1)
]

-- the ends that an orientation gives the edges
abbrev pub ends_of : List Edge → Orientation → List End
ends_of es O = map (λ (e : Edge). O e.0 e.1) es

module _ (graph : List (List ℕ)) (f : Formula) (apart : All NeighboursDiffer graph) (fits : FitsGraph graph f) where
  abbrev es : List Edge
  es = edges graph

  listed_at : (O : Orientation) (k x y : ℕ) → slice_get es k ≡ Some (edge_of x y) → O (min x y) (max x y) ≡ orientation es (ends_of es O) (min x y) (max x y)
  listed_at O k x y at = All-contains (λ (e : Edge). O e.0 e.1 ≡ orientation es (ends_of es O) e.0 e.1) es (edge_of x y) (listed O es) (Contains-from_has es (edge_of x y) (k, at))

  -- an orientation that serves meets all arcs
  pub model_of : (O : Orientation) → Serves O (paths_at graph f.paths) → IsModel f (ends_of es O)
  model_of O serves k l m arc h =
      let ends = ends_of es O in
      let a = only_arcs graph f apart fits l m (k, arc) in
      let O' = orientation es ends in
      let over = over-holds es ends (edges-apart graph) (lit_of l) a.0 a.1 a.3.tail h in
      let first = over_same O' O a.0 a.1 (sym (listed_at O (lit_of l).edge a.0 a.1 a.3.tail.edge)) over in
      let second = serves_satisfies O (paths_at graph f.paths) serves a.0 a.1 a.2 a.4 first in
      holds-over es ends (edges-apart graph) (length-map es (λ (e : Edge). O e.0 e.1)) (lit_of m) a.1 a.2 a.3.head
      (over_same O O' a.1 a.2 (listed_at O (lit_of m).edge a.1 a.2 a.3.head.edge) second)

  -- and gives each edge an end
  pub whole_of : (O : Orientation) → Serves O (paths_at graph f.paths) → IsWhole f (ends_of es O)
  whole_of O serves = (model_of O serves, fits.nodes ∙ ap (λ n. n * 2) (sym (length-map es (λ (e : Edge). O e.0 e.1))))

  -- no literal leads to its opposite and back
  pub one_way : IsServable (paths_at graph f.paths) → OneWay f
  one_way s n lt there back =
      let ends = ends_of es s.0 in
      let model = model_of s.0 s.1 in
      let many = length-map es (λ (e : Edge). s.0 e.0 e.1) in
      let nodes = fits.nodes in
      let within : n / 2 < length ends = omega (arith, lt, many, nodes) in
      elim (holds_either ends n within) [
        | inl h ↦ holds_one ends n h (model_along f ends model there h)
        | inr h ↦ holds_one ends n (model_along f ends model back h) h
      ]
