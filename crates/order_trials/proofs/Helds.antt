-- Orders that the labels have, and those that they do not have.
use Rattle.std.proofs.Common.{◌≡◌, ◌↔◌, ℕ, ◌/◌, ◌<◌, ◌≤◌, ◌⊎◌, inl, inr, Bool, true, false, not, List, Some, length, get_or, refl, sym, ap, ◌∙◌, subst, arith, All, IsTrue}
use Rattle.std.proofs.Common.{flat_map, Contains}
use Rattle.std.specs.Prelude.{slice_get}
use Rattle.std.proofs.lemmas.Bool.{cases_lt, cases_order, false≢true}
use Rattle.std.proofs.lemmas.Option.{same_Some, get_or_from_slice_get, slice_get_within}
use Rattle.tor_arena.proofs.Pairs.{pair_with}
use Rattle.relationships.specs.declared.label.End.{End}
use Rattle.relationships.specs.declared.label.Label.{Label}
use Rattle.relationships.specs.Evidence.{NeighboursDiffer}
use Rattle.relationships.specs.Relationship.{Orientation, Labelling, label_of, labels_of, is_low, is_high, is_over, opposite, ValleyFree}
use Rattle.relationships.specs.Graph.{Edge, edge_of, edges_on, edges, labelling}
use Rattle.relationships.proofs.Edges.{peering_law}
use Rattle.relationships.proofs.Serving.{serves_satisfies}
use Rattle.relationships.proofs.Slopes.{over_parts, over-low, over-high}
use Rattle.tor_digraph.specs.Walks.{Reaches}
use Rattle.as_graph.specs.Paths.{paths_at}
use Rattle.as_graph.proofs.Labelled.{NoneTwice-distinct, labelling_at}
use Rattle.tor_clauses.specs.Literals.{Literal, negated, node_of, lit_of, opposite_node, Says}
use Rattle.tor_clauses.specs.Formulas.{Formula, FitsGraph}
use Rattle.tor_clauses.specs.Flipping as flipping
use Rattle.tor_clauses.specs.Flipping.{HasPartners, HoldsOne, IsKeptAlong, ReachesOff}
use Rattle.tor_clauses.proofs.Leadings.{left_low, left_high}
use Rattle.tor_clauses.proofs.LiteralLemmas.{lit_of_node}
use Rattle.tor_clauses.proofs.Exacts.{only_arcs}
use Rattle.tor_clauses.proofs.Flips.{off_of}
use Rattle.tor_digraph.specs.Spreading.{IsClosed}
use Rattle.tor_digraph.specs.NodeSets.{IsAdded}
use Rattle.order_trials.specs.Held.{end_of_label, is_end, held}
use Rattle.order_trials.specs.Candidates.{against}
use Rattle.tor_digraph.proofs.Members.{Contains-one_more}

-- ---- what is held is what the labels say

end_low : (e : End) → is_end e End.Low ≡ true → e ≡ End.Low
end_low End.Low h = refl
end_low End.High h = absurd (false≢true h)

end_high : (e : End) → is_end e End.High ≡ true → e ≡ End.High
end_high End.Low h = absurd (false≢true h)
end_high End.High h = refl

low_end : (e : End) → is_low (label_of e) ≡ true → is_end e End.Low ≡ true
low_end End.Low h = refl
low_end End.High h = absurd (false≢true h)

high_end : (e : End) → is_high (label_of e) ≡ true → is_end e End.High ≡ true
high_end End.Low h = absurd (false≢true h)
high_end End.High h = refl

is_opposite : (e o : End) → is_end e (opposite o) ≡ not (is_end e o)
is_opposite End.Low End.Low = refl
is_opposite End.Low End.High = refl
is_opposite End.High End.Low = refl
is_opposite End.High End.High = refl

-- of two opposite nodes one is held
pub held_one : (labels : List Label) → HoldsOne (held labels)
held_one labels n =
    let same : lit_of (opposite_node n) ≡ negated (lit_of n) = lit_of_node (negated (lit_of n)) in
    subst (λ l. is_end (end_of_label (get_or labels l.edge Label.Low)) l.over ≡ not (held labels n)) (sym same) (is_opposite (end_of_label (get_or labels (n / 2) Label.Low)) (lit_of n).over)

abbrev reading : Labelling → Orientation
reading L low high = end_of_label (L low high)

module _ (graph : List (List ℕ)) (labels : List Label) (same : length labels ≡ length (edges graph)) where
  abbrev O : Orientation
  O = reading (labelling (edges graph) labels)

  -- the end that the labels give an edge
  end_at : (k low high : ℕ) → slice_get (edges graph) k ≡ Some (low, high) → O low high ≡ end_of_label (get_or labels k Label.Low)
  end_at k low high at =
      let lt = slice_get_within (edges graph) k (low, high) at in
      ap end_of_label (labelling_at (edges graph) labels k low high Label.Low (NoneTwice-distinct (flat_map edges_on graph)) at (omega (arith, lt, same)))

  held_over : (n x y : ℕ) → Says (edges graph) (lit_of n) x y → IsTrue (held labels n) ↔ IsTrue (is_over (labels_of O) x y)
  held_over n x y says = by_order (cases_lt x y)
    where
      end : ℕ → End
      end k = end_of_label (get_or labels k Label.Low)

      by_order : (x < y) ⊎ (y ≤ x) → IsTrue (held labels n) ↔ IsTrue (is_over (labels_of (reading (labelling (edges graph) labels))) x y)
      by_order (inl lt) =
          let edge : edge_of x y ≡ (x, y) = pair_with (omega (arith, lt)) (omega (arith, lt)) in
          let at = says.edge ∙ ap (λ (e : Edge). Some e) edge in
          let is = end_at (n / 2) x y at in
          let low : (lit_of n).over ≡ End.Low = says.end ∙ left_low x y lt in (
            λ h. over-low (labels_of O) x y lt
                (ap (λ e. is_low (label_of e)) (is ∙
                end_low (end_of_label (get_or labels (n / 2) Label.Low)) (ap (is_end (end_of_label (get_or labels (n / 2) Label.Low))) (sym low) ∙ h))),
            λ h. elim (over_parts (labels_of O) x y h) [
              | inl p ↦ ap (is_end (end_of_label (get_or labels (n / 2) Label.Low))) low ∙ low_end (end_of_label (get_or labels (n / 2) Label.Low)) (ap (λ e. is_low (label_of e)) (sym is) ∙ p.1)
              | inr p ↦ absurd (let less = p.0 in omega (arith, lt, less))
            ],
          )
      by_order (inr le) =
          let lt : y < x = elim (cases_order x y) [ inl e ↦ absurd (says.two e) | inr o ↦ elim o [ inl l ↦ absurd (omega (arith, l, le)) | inr l ↦ l ] ] in
          let edge : edge_of x y ≡ (y, x) = pair_with (omega (arith, lt)) (omega (arith, lt)) in
          let at = says.edge ∙ ap (λ (e : Edge). Some e) edge in
          let is = end_at (n / 2) y x at in
          let high : (lit_of n).over ≡ End.High = says.end ∙ left_high x y le in (
            λ h. over-high (labels_of O) y x lt
                (ap (λ e. is_high (label_of e))
                (is ∙ end_high (end_of_label (get_or labels (n / 2) Label.Low)) (ap (is_end (end_of_label (get_or labels (n / 2) Label.Low))) (sym high) ∙ h))),
            λ h. elim (over_parts (labels_of O) x y h) [
              | inl p ↦ absurd (let less = p.0 in omega (arith, lt, less))
              | inr p ↦ ap (is_end (end_of_label (get_or labels (n / 2) Label.Low))) high ∙ high_end (end_of_label (get_or labels (n / 2) Label.Low)) (ap (λ e. is_high (label_of e)) (sym is) ∙ p.1)
            ],
          )

  -- no arc leads from what is held to what is not
  pub held_along : (f : Formula) → All NeighboursDiffer graph → FitsGraph graph f → All (ValleyFree (labelling (edges graph) labels)) (paths_at graph f.paths) → IsKeptAlong f.net.arcs (held labels)
  held_along f apart fits served l m arc h =
      let serves = peering_law (labelling (edges graph) labels) (paths_at graph f.paths) served O (λ k d within. (λ e. rw e, λ e. rw e)) in
      let a = only_arcs graph f apart fits l m arc in
      (held_over m a.1 a.2 a.3.head).1 (serves_satisfies O (paths_at graph f.paths) serves a.0 a.1 a.2 a.4 ((held_over l a.0 a.1 a.3.tail).0 h))

-- ---- walks of orders that the labels do not have

-- where no arc leads out of these nodes but to what is held, a walk between two orders that are not held stays among them
module _ (labels : List Label) (arcs : List (ℕ × ℕ)) (past nodes : List ℕ) (only : (n : ℕ) → Contains past n → IsTrue (held labels n)) (closed : IsClosed arcs past nodes) where
  stays-off : {a b : ℕ} → Contains nodes a → ReachesOff arcs (held labels) a b → Contains nodes b
  stays-off h flipping.here = h
  stays-off h (flipping.along {b = b} {c = c} r arc g) = elim (closed b c (stays-off h r) arc) [ inl k ↦ k | inr k ↦ absurd (false≢true (sym g ∙ only c k)) ]

  pub reached_off : HasPartners arcs → IsKeptAlong arcs (held labels) → {a b : ℕ} → Contains nodes a → held labels b ≡ false → Reaches arcs a b → Contains nodes b
  reached_off partners kept h g r = stays-off h (off_of arcs partners (held labels) (held_one labels) kept r g)

-- the node of an order of an edge
at_end : (labels : List Label) (edge : ℕ) (over : End) (label : Label) → slice_get labels edge ≡ Some label → (m : ℕ) → m ≡ node_of (record { edge = edge; over = over }) →
    held labels m ≡ is_end (end_of_label label) over
at_end labels edge over label at m e =
    let lit : Literal = record { edge = edge; over = over } in
    let same : lit_of m ≡ lit = ap lit_of e ∙ lit_of_node lit in
    subst (λ (l : Literal). is_end (end_of_label (get_or labels l.edge Label.Low)) l.over ≡ is_end (end_of_label label) over) (sym same)
    (ap (λ v. is_end (end_of_label v) over) (get_or_from_slice_get labels edge label Label.Low at))

-- the order against a label is not held
pub against_off : (labels : List Label) (edge : ℕ) (label : Label) (n : ℕ) → slice_get labels edge ≡ Some label → against edge label ≡ Some n → held labels n ≡ false
against_off labels edge label n at is = by_label label at is
  where
    node_at : (over : End) → Some (node_of (record { edge = edge; over = over })) ≡ Some n → n ≡ node_of (record { edge = edge; over = over })
    node_at over e = sym (same_Some (node_of (record { edge = edge; over = over })) n e)

    by_label : (label : Label) → slice_get labels edge ≡ Some label → against edge label ≡ Some n → held labels n ≡ false
    by_label Label.Low at is = at_end labels edge End.High Label.Low at n (node_at End.High is)
    by_label Label.High at is = at_end labels edge End.Low Label.High at n (node_at End.Low is)
    by_label Label.Peer at is = absurd (cc is)

-- the order of a label is held
pub label_held : (labels : List Label) (edge : ℕ) (label : Label) (n : ℕ) → slice_get labels edge ≡ Some label → n ≡ node_of (record { edge = edge; over = end_of_label label })
    → IsTrue (held labels n)
label_held labels edge Label.Low n at is = at_end labels edge End.Low Label.Low at n is
label_held labels edge Label.High n at is = at_end labels edge End.High Label.High at n is
label_held labels edge Label.Peer n at is = at_end labels edge End.Low Label.Peer at n is

-- one node more
pub held_more : (labels : List Label) (node : ℕ) (is_new : Bool) (old new : List ℕ) → ((n : ℕ) → Contains old n → IsTrue (held labels n)) → IsTrue (held labels node) →
    IsAdded node is_new old new → (n : ℕ) → Contains new n → IsTrue (held labels n)
held_more labels node is_new old new so h (inl a) n c =
    elim (Contains-one_more old node n (subst (λ (l : List ℕ). Contains l n) a.2 c)) [ inl was ↦ so n was | inr is ↦ subst (λ m. IsTrue (held labels m)) (sym is) h ]
held_more labels node is_new old new so h (inr a) n c = so n (subst (λ (l : List ℕ). Contains l n) a.2 c)
