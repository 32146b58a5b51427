-- What is counted of the orders of open edges is what is asked of their edges.
use Rattle.std.proofs.Common.{◌≡◌, ℕ, ◌<◌, List, [], ◌∷◌, ◌++◌, Some, length, map, sym, ap, ◌∙◌, subst, arith, All, IsPermutation, IsSorted, inl, inr}
use Rattle.std.specs.Prelude.{slice_get}
use Rattle.std.proofs.lemmas.Option.{get_or_from_slice_get, slice_get_within}
use Rattle.std.proofs.lemmas.List.Sorted.{All-permutation, IsPermutation-map}
use Rattle.tor_arena.proofs.Gets.{slice_get-some, slice_get-push_cases}
use Rattle.tor_numbers.specs.Edges.{edge_at}
use Rattle.relationships.specs.declared.label.End.{End}
use Rattle.relationships.specs.declared.mark.Mark.{Mark}
use Rattle.relationships.specs.Relationship.{opposite}
use Rattle.relationships.specs.Graph.{Edge, edges}
use Rattle.relationships.specs.Evidence.{NeighboursDiffer}
use Rattle.relationships.specs.Selection.{IsServable}
use Rattle.tor_digraph.specs.Walks.{Net, IsInside}
use Rattle.as_graph.specs.Paths.{paths_at}
use Rattle.tor_clauses.specs.Literals.{Literal, negated, node_of, lit_of, opposite_node}
use Rattle.tor_clauses.specs.Flipping.{HasPartners}
use Rattle.tor_clauses.specs.Formulas.{Formula, FitsGraph}
use Rattle.tor_clauses.proofs.LiteralLemmas.{lit_with, lit_of_node, opposite_node-node}
use Rattle.tor_solve.specs.Laws.{DecidedLaw}
use Rattle.forced_edges.specs.ForcedLaws.{ClosureReachLaw}
use Rattle.ties.specs.Tied.{AreMarks, open_from}
use Rattle.ties.specs.TieLaws.{ImplicationLaw}
use Rattle.ties.specs.Parts.{IsOpen}
use Rattle.ties.proofs.Exactness.{as_many}
use Rattle.asks.specs.declared.ask.Ask.{Ask}
use Rattle.asks.specs.Asks.{ForcesSoMany, IsAsk, AreAsks, ask_cmp}
use Rattle.asks.specs.Arriving.{IsArrivalCount, AreArrivals}
use Rattle.asks.specs.Narrowing.{opens_before, narrow_node, IsOpenNode, IsCountedEdge, AreCountedEdges, AreOpenAsks}
use Rattle.asks.proofs.Opens.{open_of_place}
use Rattle.asks.proofs.Counted.{forces}

-- what holds of what stands at each place holds of all
all_at : {X : Type 0} (P : X → Type 0) (xs : List X) → ((k : ℕ) (x : X) → slice_get xs k ≡ Some x → P x) → All P xs
all_at P xs h = λ k d lt. let r = slice_get-some xs k lt in subst P (sym (get_or_from_slice_get xs k r.0 d r.1)) (h k r.0 r.1)

module _ (decided : DecidedLaw) (law : ImplicationLaw) (reach : ClosureReachLaw) (graph : List (List ℕ)) (f : Formula)
    (apart : All NeighboursDiffer graph) (fits : FitsGraph graph f) (inside : IsInside (λ n. n) f.net) (partners : HasPartners f.net.arcs)
    (servable : IsServable (paths_at graph f.paths)) (marks : List Mark) (all : AreMarks (paths_at graph f.paths) (edges graph) marks)
    (asks : List Ask) (are : AreOpenAsks marks (open_from 0 marks) f.net asks) where
  -- the number of an order, by how many lead to its opposite
  one_side : (place : ℕ) (end : End) (k n : ℕ) → IsOpen marks place → opens_before marks place ≡ k →
      IsArrivalCount are.other are.other.nodes (node_of (record { edge = k; over = opposite end })) n →
      ForcesSoMany (paths_at graph f.paths) (edges graph) (edge_at (edges graph) place) end n
  one_side place end k n is_open stands count =
      let l = lit_with place end in
      let x = node_of l in
      let is = lit_of_node l in
      let o : IsOpenNode marks x = subst (λ (m : Literal). IsOpen marks m.edge) (sym is) is_open in
      let many = as_many (paths_at graph f.paths) (edges graph) marks all in
      let lt = slice_get_within marks place Mark.Open is_open in
      let e = slice_get-some (edges graph) place (omega (arith, many, lt)) in
      let edge_is : slice_get (edges graph) (lit_of x).edge ≡ Some e.0 = subst (λ (m : Literal). slice_get (edges graph) m.edge ≡ Some e.0) (sym is) e.1 in
      let turned : lit_of (opposite_node x) ≡ negated l = ap lit_of (opposite_node-node l) ∙ lit_of_node (negated l) in
      let node : narrow_node marks (opposite_node x) ≡ node_of (record { edge = k; over = opposite end }) =
      ap (λ (m : Literal). node_of (lit_with (opens_before marks m.edge) m.over)) turned ∙ ap (λ k. node_of (lit_with k (opposite end))) stands in
      let counted = subst (λ k. IsArrivalCount are.other are.other.nodes k n) (sym node) count in
      let h = forces decided law reach graph f apart fits inside partners servable marks all are.other are.narrowed x o n counted e.0 edge_is in
      subst (λ (e : Edge). ForcesSoMany (paths_at graph f.paths) (edges graph) e end n) (sym (get_or_from_slice_get (edges graph) place e.0 (0, 0) e.1))
      (subst (λ (end : End). ForcesSoMany (paths_at graph f.paths) (edges graph) e.0 end n) (ap (λ (m : Literal). m.over) is) h)

  pub all_asks : All (IsAsk (paths_at graph f.paths) (edges graph)) asks
  all_asks = all_at (IsAsk (paths_at graph f.paths) (edges graph)) asks (λ k a at.
      let n = are.numbered k a at in
      let o = open_of_place marks k a.edge n.edge in
      record { low = one_side a.edge End.Low k a.if_low o.0 o.1 n.low; high = one_side a.edge End.High k a.if_high o.0 o.1 n.high })

  pub all_inside : All (λ (a : Ask). a.edge < length (edges graph)) asks
  all_inside = all_at (λ (a : Ask). a.edge < length (edges graph)) asks (λ k a at.
      let n = are.numbered k a at in
      let o = open_of_place marks k a.edge n.edge in
      let many = as_many (paths_at graph f.paths) (edges graph) marks all in
      let lt = slice_get_within marks a.edge Mark.Open o.0 in
      omega (arith, many, lt))

-- in their order they are still these
pub in_order : (served : List (List ℕ)) (es : List Edge) (places : List ℕ) (asks sorted : List Ask) → map (λ (a : Ask). a.edge) asks ≡ places →
    All (IsAsk served es) asks → IsPermutation asks sorted → IsSorted ask_cmp sorted → AreAsks served es places sorted
in_order served es places asks sorted edges_are all moved in_turn = record {
  each = subst (λ ps. IsPermutation ps (map (λ (a : Ask). a.edge) sorted)) edges_are (IsPermutation-map (λ (a : Ask). a.edge) asks sorted moved);
  counted = All-permutation (IsAsk served es) asks sorted moved all;
  sorted = in_turn;
}

pub inside_in_order : (n : ℕ) (asks sorted : List Ask) → IsPermutation asks sorted → All (λ (a : Ask). a.edge < n) asks → All (λ (a : Ask). a.edge < n) sorted
inside_in_order n asks sorted moved all = All-permutation (λ (a : Ask). a.edge < n) asks sorted moved all

-- ---- one edge more

-- the edges with their numbers so far, in whatever digraph the counts are right
abbrev pub AreCountedBy : List ℕ → List ℕ → List ℕ → List Ask → Type 0
AreCountedBy of counts places asks = (net : Net ℕ) → AreArrivals net of net.nodes counts → AreCountedEdges net places asks

pub number_none : (of counts places : List ℕ) (asks : List Ask) → asks ≡ [] → AreCountedBy of counts places asks
number_none of counts places asks is net arrive k a at = absurd (nothing k a (ap (λ l. slice_get l k) (sym is) ∙ at))
  where
    nothing : (k : ℕ) (a : Ask) → slice_get {X = Ask} [] k ≡ Some a → ⊥
    nothing k a e = cc

pub number_more : (of counts places : List ℕ) (asks more : List Ask) (a : Ask) → AreCountedBy of counts places asks → more ≡ asks ++ a ∷ [] →
    slice_get places (length asks) ≡ Some a.edge →
    ((net : Net ℕ) → AreArrivals net of net.nodes counts → IsArrivalCount net net.nodes (node_of (record { edge = length asks; over = End.High })) a.if_low) →
    ((net : Net ℕ) → AreArrivals net of net.nodes counts → IsArrivalCount net net.nodes (node_of (record { edge = length asks; over = End.Low })) a.if_high) →
    AreCountedBy of counts places more
number_more of counts places asks more a h is edge low high net arrive k b at =
    elim (slice_get-push_cases asks a k b (ap (λ l. slice_get l k) (sym is) ∙ at)) [
      | inl old ↦ h net arrive k b old
      | inr last ↦
          subst (λ j. IsCountedEdge net places j b) (sym last.0) (subst (IsCountedEdge net places (length asks)) (sym last.1)
          (record { edge = edge; low = low net arrive; high = high net arrive }))
    ]
