-- The orders to which the edges of steps flip.
use Rattle.std.proofs.Common.{◌≡◌, ℕ, inl, inr, Bool, true, false, min, max, if◌then◌else◌, get_or, List, sym, ap, ◌∙◌, subst, arith, lt-ltb, le-ltb}
use Rattle.std.proofs.lemmas.Bool.{cases_lt}
use Rattle.std.proofs.lemmas.Option.{get_or_from_slice_get}
use Rattle.relationships.specs.declared.label.End.{End}
use Rattle.relationships.specs.declared.label.Label.{Label}
use Rattle.relationships.specs.declared.label.Label.TheVariants as label
use Rattle.relationships.specs.Graph.{edge_of}
use Rattle.relationships.specs.Steps.{end_left}
use Rattle.result_text.specs.declared.file.EdgeLine.{EdgeLine}
use Rattle.line_rules.specs.declared.edges.step.Step.{Step}
use Rattle.line_rules.specs.Flipping.{climbs, flipped_by, flipped_orders, FlipsTo, IsClimb}
use Rattle.line_rules.specs.EdgeLines.{edges_of}
use Rattle.line_rules.specs.PathSteps.{place_in, left_in, IsCodedStep, labels_on}
use Rattle.tor_arena.proofs.Gets.{slice_get-map, slice_get-unmap}
use Rattle.line_rules.proofs.OrderPlaces.{pair, flips_of}

-- the order that the edge of a step from a to b would have to flip to, to have the step go down, or up
abbrev order_of : Bool → ℕ → ℕ → ℕ × ℕ
order_of true a b = (a, b)
order_of false a b = (b, a)

flips_by : (l : Label) (low high a b : ℕ) (left : End) → ◌≡◌ {A = ℕ × ℕ} (low, high) (edge_of a b) → left ≡ end_left a b → flipped_by l low high ≡ order_of (climbs l left) a b
flips_by l low high a b left e is =
    elim (cases_lt a b) [
      | inl lt ↦
          let from_low : left ≡ End.Low = is ∙ ap (λ t. if t then End.Low else End.High) (lt-ltb a b lt) in
          from_a l (omega (arith, e₀, lt)) (omega (arith, e₁, lt)) ∙ ap (λ end. order_of (climbs l end) a b) (sym from_low)
      | inr ge ↦
          let from_high : left ≡ End.High = is ∙ ap (λ t. if t then End.Low else End.High) (le-ltb a b ge) in
          from_b l (omega (arith, e₀, ge)) (omega (arith, e₁, ge)) ∙ ap (λ end. order_of (climbs l end) a b) (sym from_high)
    ]
  where
    e₀ : low ≡ min a b
    e₀ = ap (λ (p : ℕ × ℕ). p.0) e

    e₁ : high ≡ max a b
    e₁ = ap (λ (p : ℕ × ℕ). p.1) e

    from_a : (l : Label) → low ≡ a → high ≡ b → flipped_by l low high ≡ order_of (climbs l End.Low) a b
    from_a label.Low low_is high_is = pair high_is low_is
    from_a label.High low_is high_is = pair low_is high_is
    from_a label.Peer low_is high_is = pair high_is low_is

    from_b : (l : Label) → low ≡ b → high ≡ a → flipped_by l low high ≡ order_of (climbs l End.High) a b
    from_b label.Low low_is high_is = pair high_is low_is
    from_b label.High low_is high_is = pair low_is high_is
    from_b label.Peer low_is high_is = pair high_is low_is

step_by : (orders : List (ℕ × ℕ)) (k a b : ℕ) (up : Bool) → FlipsTo orders k (order_of up a b).0 (order_of up a b).1 → IsClimb orders k up a b
step_by orders k a b true h = h
step_by orders k a b false h = h

pub climb : (lines : List EdgeLine) (a b : ℕ) (step : Step) → IsCodedStep (edges_of lines) a b step →
    IsClimb (flipped_orders lines) (place_in step) (climbs (get_or (labels_on lines) (place_in step) label.Peer) (left_in step)) a b
climb lines a b step h =
    let w = slice_get-unmap (λ (e : EdgeLine). (e.low, e.high)) lines (place_in step) (edge_of a b) h.0 in
    let line : EdgeLine = w.0 in
    let its : get_or (labels_on lines) (place_in step) label.Peer ≡ line.label =
    get_or_from_slice_get (labels_on lines) (place_in step) line.label label.Peer (slice_get-map (λ (e : EdgeLine). e.label) lines (place_in step) line w.1) in
    let order = order_of (climbs line.label (left_in step)) a b in
    let flips : FlipsTo (flipped_orders lines) (place_in step) order.0 order.1 =
    flips_of lines (place_in step) order.0 order.1 line w.1 (flips_by line.label line.low line.high a b (left_in step) w.2 h.1) in
    subst (λ l. IsClimb (flipped_orders lines) (place_in step) (climbs l (left_in step)) a b) (sym its)
    (step_by (flipped_orders lines) (place_in step) a b (climbs line.label (left_in step)) flips)
