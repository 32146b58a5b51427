use Rattle.std.proofs.Common.{◌≡◌, ℕ, List, All, inl, inr, ◌+◌, ◌-◌, ◌<◌, Some, get_or, sym, ap, ap₂, ◌∙◌, subst, arith}
use Rattle.std.specs.Prelude.{slice_get}
use Rattle.std.proofs.lemmas.Bool.{cases_eq, false_from_ne_true, false≢true}
use Rattle.std.proofs.lemmas.Option.{get_or_from_slice_get, slice_get_within, same_Some}
use Rattle.relationships.specs.Graph.{Edge}
use Rattle.as_graph.specs.EdgeSteps.{EdgeStep}
use Rattle.tor_clauses.specs.Literals.{node_of}
use Rattle.tor_clauses.specs.Tables.{AreKnownOn, is_there, lit_at, triple_by}
use Rattle.tor_clauses.proofs.Adding.{get_from_or}
use Rattle.tor_clauses.proofs.triple_table.TripleTable.first_new.Goals as goal

abbrev pair : ℕ → ℕ → Edge
pair m n = (m, n)

small : (steps : List EdgeStep) → All (λ (t : EdgeStep). t.edge < 67108864) steps → (k : ℕ) (s : EdgeStep) → slice_get steps k ≡ Some s → s.edge < 134217728
small steps few k s at =
    let lt = slice_get_within steps k s at in
    let one = few k s lt in
    let is : (get_or steps k s).edge ≡ s.edge = ap (λ (t : EdgeStep). t.edge) (get_or_from_slice_get steps k s s at) in
    omega (arith, one, is)

pub loop-next-init : goal.loop-next-init
loop-next-init c = record { first = first; known = λ k s t le lt a b. absurd (omega (arith, le, lt)) }
  where
    first : (s : EdgeStep) → slice_get c.args.steps.now (c.args.from - 1) ≡ Some s → c.node-first.result ≡ node_of (lit_at s)
    first s at =
        let some = c.requires.from in
        let inside = c.requires.inside in
        let here : slice_get c.args.steps.now (c.args.from - 1) ≡ Some c.index-steps-from.result =
        get_from_or c.args.steps.now (c.args.from - 1) c.index-steps-from.result (omega (arith, some, inside)) c.index-steps-from.is in
        c.node-first.ensures.node ∙ ap node_of (c.of_step.ensures ∙ ap lit_at (same_Some _ _ (sym here ∙ at)))

pub loop-next-preserved : goal.loop-next-preserved
loop-next-preserved c = record { first = first; known = known }
  where
    next : ℕ
    next = c.loop-next.next

    second : (s : EdgeStep) → slice_get c.args.steps.now next ≡ Some s → c.node-second.result ≡ node_of (lit_at s)
    second s at =
        let here : slice_get c.args.steps.now next ≡ Some c.index-steps-next.result =
        get_from_or c.args.steps.now next c.index-steps-next.result c.loop-next-test.true c.index-steps-next.is in
        c.node-second.ensures.node ∙ ap node_of (c.of_step-in-loop-next.ensures ∙ ap lit_at (same_Some _ _ (sym here ∙ at)))

    first : (s : EdgeStep) → slice_get c.args.steps.now (next + 1 - 1) ≡ Some s → c.node-second.result ≡ node_of (lit_at s)
    first s at = let e : next + 1 - 1 ≡ next = omega arith in second s (subst (λ k. slice_get c.args.steps.now k ≡ Some s) e at)

    known : AreKnownOn c.args.self.now.triples c.args.steps.now c.args.from (next + 1)
    known k s t le lt a b = elim (cases_eq (k + 1) next) [
      | inl e ↦ (
          let before : k ≡ next - 1 = omega (arith, e) in
          let one = c.loop-next.invariant.first s (subst (λ n. slice_get c.args.steps.now n ≡ Some s) before a) in
          let two = second t (subst (λ n. slice_get c.args.steps.now n ≡ Some t) e b) in
          (c.holds.ensures (triple_by 0 0 s t) (small c.args.steps.now c.requires.few k s a, small c.args.steps.now c.requires.few (k + 1) t b) (ap₂ pair (sym one) (sym two))).0 c.if-not-holds.false
          )
      | inr ne ↦ c.loop-next.invariant.known k s t le (omega (arith, lt, ne)) a b
    ]

pub returns-clause-known : goal.returns-clause-known
returns-clause-known c = λ k s t le lt a b.
    let past = c.loop-next-test.false in c.loop-next.invariant.known k s t le (omega (arith, lt, past)) a b

pub returns-then-not-holds-clause-new : goal.returns-then-not-holds-clause-new
returns-then-not-holds-clause-new c = λ lt k s t e a b.
    let steps = c.args.steps.now in
    let next = c.loop-next.next in
    let here : slice_get steps next ≡ Some c.index-steps-next.result = get_from_or steps next c.index-steps-next.result c.loop-next-test.true c.index-steps-next.is in
    let second : c.node-second.result ≡ node_of (lit_at t) = c.node-second.ensures.node ∙
    ap node_of (c.of_step-in-loop-next.ensures ∙ ap lit_at (same_Some _ _ (sym here ∙ subst (λ n. slice_get steps n ≡ Some t) e b))) in
    let before : k ≡ next - 1 = omega (arith, e) in
    let first = c.loop-next.invariant.first s (subst (λ n. slice_get steps n ≡ Some s) before a) in
    let is = c.holds.ensures (triple_by 0 0 s t) (small steps c.requires.few k s a, small steps c.requires.few (k + 1) t b) (ap₂ pair (sym first) (sym second)) in
    false_from_ne_true (is_there c.args.self.now.triples s t) (λ there. false≢true (sym c.if-not-holds.true ∙ is.1 there))
