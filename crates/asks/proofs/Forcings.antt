-- What is forced once an end of an open edge is known, by closures; and that some orientation has that end.
use Rattle.std.proofs.Common.{◌≡◌, ◌↔◌, ℕ, ◌<◌, List, refl, sym, ◌∙◌, subst, All, Contains}
use Rattle.std.proofs.lemmas.List.Elements.{All-contains}
use Rattle.relationships.specs.declared.label.End.{End}
use Rattle.relationships.specs.Relationship.{Orientation, Serves}
use Rattle.relationships.specs.Graph.{Edge}
use Rattle.relationships.specs.Evidence.{NeighboursDiffer, Closure}
use Rattle.relationships.specs.Selection.{IsServable, IsForced}
use Rattle.relationships.proofs.GivenLemmas.{given_serving_law}
use Rattle.tor_solve.specs.Laws.{DecidedLaw}
use Rattle.ties.specs.TieLaws.{ImplicationLaw}
use Rattle.ties.proofs.Implications.{implies, some_over}
use Rattle.ties.proofs.Tiedness.{order, has_end, has_order, low_apart, high_apart}
use Rattle.asks.specs.Asks.{IsForcedBy, IsOpenOf}
use Rattle.asks.specs.AskLaws.{order_by, IsInClosure, ForcedByLaw, AskClosureLaw, AgreeingAsksLaw}

pub same_order : (e : Edge) (end : End) → order e end ≡ order_by e end
same_order e End.Low = refl
same_order e End.High = refl

-- an order of an open edge doesn't lead to its opposite
pub end_apart : (paths : List (List ℕ)) (e : Edge) (end : End) → e.0 < e.1 → (IsForced paths e.0 e.1 → ⊥) →
    Closure paths (order e end).0 (order e end).1 (order e end).1 (order e end).0 → ⊥
end_apart paths e End.Low lt is_open c = low_apart paths e lt is_open c
end_apart paths e End.High lt is_open c = high_apart paths e lt is_open c

-- the opposite order, the other way round
turned_end : (paths : List (List ℕ)) (f : Edge) (end : End) → f.0 < f.1 → (IsForced paths f.0 f.1 → ⊥) →
    Closure paths (order f end).1 (order f end).0 (order f end).0 (order f end).1 → ⊥
turned_end paths f End.Low lt is_open c = high_apart paths f lt is_open c
turned_end paths f End.High lt is_open c = low_apart paths f lt is_open c

-- what is in the closure of an end's order has one end
pub led_to : (paths : List (List ℕ)) (e f : Edge) (end other : End) → e.0 < e.1 → f.0 < f.1 →
    Closure paths (order e end).0 (order e end).1 (order f other).0 (order f other).1 →
    (O : Orientation) → Serves O paths → O e.0 e.1 ≡ end → O f.0 f.1 ≡ other
led_to paths e f end other lt lu c O serves is =
    has_end O f other lu (implies O paths (order e end).0 (order e end).1 serves (has_order O e end lt is) c)

module _ (decided : DecidedLaw) (law : ImplicationLaw) (paths : List (List ℕ)) (differing : All NeighboursDiffer paths) (servable : IsServable paths) where
  -- some orientation that serves has this end of an open edge
  pub some_end : (e : Edge) (end : End) → e.0 < e.1 → (IsForced paths e.0 e.1 → ⊥) → (O : Orientation) × Serves O paths × (O e.0 e.1 ≡ end)
  some_end e end lt is_open =
      let w = some_over decided paths differing servable.0 (order e end).0 (order e end).1 (end_apart paths e end lt is_open) servable.1 in
      (w.0, w.1, has_end w.0 e end lt w.2)

  module _ (e f : Edge) (end : End) (lt : e.0 < e.1) (lu : f.0 < f.1) (is_open : IsForced paths e.0 e.1 → ⊥) (opens : IsForced paths f.0 f.1 → ⊥) where
    pub in_closure : IsForcedBy paths e end f →
        (other : End) × Closure paths (order e end).0 (order e end).1 (order f other).0 (order f other).1
    in_closure forced =
        let w = some_end e end lt is_open in
        let other = w.0 f.0 f.1 in (
          other,
          (law paths (order e end).0 (order e end).1 (order f other).0 (order f other).1 differing servable
              (end_apart paths e end lt is_open) (turned_end paths f other lu opens)).0
              (λ O serves o. has_order O f other lu (forced O w.0 serves w.1 (has_end O e end lt o) w.2)),
        )

    pub from_closure : (other : End) → Closure paths (order e end).0 (order e end).1 (order f other).0 (order f other).1 → IsForcedBy paths e end f
    from_closure other c O O' serves serves' is is' =
        led_to paths e f end other lt lu c O serves is ∙ sym (led_to paths e f end other lt lu c O' serves' is')

pub forced_by_law : DecidedLaw → ImplicationLaw → ForcedByLaw
forced_by_law decided law paths e f end differing servable lt lu is_open opens = (
  λ forced.
      let c = in_closure decided law paths differing servable e f end lt lu is_open opens forced in
      (c.0, to_specs c.0 c.1),
  λ c. from_closure decided law paths differing servable e f end lt lu is_open opens c.0 (from_specs c.0 c.1),
)
  where
    to_specs : (other : End) → Closure paths (order e end).0 (order e end).1 (order f other).0 (order f other).1 →
        Closure paths (order_by e end).0 (order_by e end).1 (order_by f other).0 (order_by f other).1
    to_specs other c =
        subst (λ (p : ℕ × ℕ). Closure paths (order_by e end).0 (order_by e end).1 p.0 p.1) (same_order f other)
        (subst (λ (p : ℕ × ℕ). Closure paths p.0 p.1 (order f other).0 (order f other).1) (same_order e end) c)

    from_specs : (other : End) → Closure paths (order_by e end).0 (order_by e end).1 (order_by f other).0 (order_by f other).1 →
        Closure paths (order e end).0 (order e end).1 (order f other).0 (order f other).1
    from_specs other c =
        subst (λ (p : ℕ × ℕ). Closure paths (order e end).0 (order e end).1 p.0 p.1) (sym (same_order f other))
        (subst (λ (p : ℕ × ℕ). Closure paths p.0 p.1 (order_by f other).0 (order_by f other).1) (sym (same_order e end)) c)

pub ask_closure_law : ForcedByLaw → AskClosureLaw
ask_closure_law law served es e end n differing servable rise opens = (
  λ h. record {
    held = h.0;
    once = h.1.once;
    exact = λ f. (
      λ c. let o = (h.1.exact f).0 c in (o.0, (at f o.0).0 o.1),
      λ o. (h.1.exact f).1 (o.0, (at f o.0).1 o.1),
    );
    many = h.2;
  },
  λ h. (
    h.held,
    record {
      once = h.once;
      exact = λ f. (
        λ c. let o = (h.exact f).0 c in (o.0, (at f o.0).1 o.1),
        λ o. (h.exact f).1 (o.0, (at f o.0).0 o.1),
      );
    },
    h.many,
  ),
)
  where
    rises : (f : Edge) → Contains es f → f.0 < f.1
    rises f c = All-contains (λ (f : Edge). f.0 < f.1) es f rise c

    at : (f : Edge) → IsOpenOf served es f → IsForcedBy served e end f ↔ IsInClosure served e end f
    at f o = law served e f end differing servable (rises e opens.0) (rises f o.0) opens.1 o.1

pub agreeing_asks_law : AgreeingAsksLaw
agreeing_asks_law givens paths kept e f end =
    let serving = given_serving_law givens paths in (
      λ h O O' s s' is is'. h O O' ((serving.1 O kept).0 s) ((serving.1 O' kept).0 s') is is',
      λ h O O' s s' is is'. h O O' ((serving.1 O kept).1 s) ((serving.1 O' kept).1 s') is is',
    )
