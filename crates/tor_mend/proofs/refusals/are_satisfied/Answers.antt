use Rattle.std.proofs.Common.{◌≡◌, ◌+◌, ◌-◌, ◌<◌, ◌↔◌, ℕ, Bool, true, false, not, ◌&&◌, ◌||◌, Some, refl, sym, ap, ◌∙◌, subst, arith, inl, inr}
use Rattle.std.specs.Prelude.{slice_get}
use Rattle.std.proofs.lemmas.Bool.{cases_eq, false≢true}
use Rattle.std.proofs.lemmas.Option.{slice_get_within}
use Rattle.tor_arena.proofs.Gets.{slice_get-some}
use Rattle.as_graph.specs.EdgeSteps.{EdgeStep}
use Rattle.tor_clauses.specs.Literals.{lit_of, Holds}
use Rattle.tor_clauses.specs.Tables.{lit_at}
use Rattle.tor_clauses.proofs.Adding.{get_from_or}
use Rattle.tor_clauses.proofs.LiteralLemmas.{lit_of_node}
use Rattle.tor_mend.specs.Refusals.{node_at}
use Rattle.tor_clauses.proofs.Ways.{some_same}
use Rattle.tor_mend.proofs.refusals.are_satisfied.Goals as goal

split : (a b d : Bool) → (a && (not b || d)) ≡ true → (a ≡ true) × (b ≡ true → d ≡ true)
split true true d e = (refl, λ _. e)
split true false d e = (refl, λ h. absurd (false≢true h))
split false b d e = absurd (false≢true e)

join : (a b d : Bool) → a ≡ true → (b ≡ true → d ≡ true) → (a && (not b || d)) ≡ true
join true true d e f = f refl
join true false d e f = refl
join false b d e f = absurd (false≢true e)

pub loop-step-preserved : goal.loop-step-preserved
loop-step-preserved c = record { none = λ e. absurd (omega (arith, e)); before = before; satisfied = (forth, back) }
  where
    here : slice_get c.args.steps.now c.loop-step.step-index ≡ Some c.step-item.result
    here = get_from_or c.args.steps.now c.loop-step.step-index c.step-item.result c.loop-step-test.true c.step-item.is

    holds : (s : EdgeStep) → slice_get c.args.steps.now c.loop-step.step-index ≡ Some s → (c.holds-holds.result ≡ true) ↔ Holds c.args.ends.now (lit_of (node_at s))
    holds s there =
        let same : c.of_step.result ≡ lit_of (node_at s) = c.of_step.ensures ∙ ap lit_at (some_same (sym here ∙ there)) ∙ sym (lit_of_node (lit_at s)) in
        subst (λ l. (c.holds-holds.result ≡ true) ↔ Holds c.args.ends.now l) same c.holds-holds.ensures

    before : (k : ℕ) (s : EdgeStep) → k + 1 ≡ c.loop-step.step-index + 1 → slice_get c.args.steps.now k ≡ Some s → (c.holds-holds.result ≡ true) ↔ Holds c.args.ends.now (lit_of (node_at s))
    before k s e there = let same : k ≡ c.loop-step.step-index = omega (arith, e) in holds s (subst (λ n. slice_get c.args.steps.now n ≡ Some s) same there)

    forth : (c.loop-step.satisfied && (not c.loop-step.before || c.holds-holds.result)) ≡ true → (k : ℕ) (s t : EdgeStep) → k + 1 < c.loop-step.step-index + 1 →
        slice_get c.args.steps.now k ≡ Some s → slice_get c.args.steps.now (k + 1) ≡ Some t → Holds c.args.ends.now (lit_of (node_at s)) → Holds c.args.ends.now (lit_of (node_at t))
    forth so k s t lt a b h =
        let all = split c.loop-step.satisfied c.loop-step.before c.holds-holds.result so in
        elim (cases_eq (k + 1) c.loop-step.step-index) [
          | inl e ↦ (holds t (subst (λ n. slice_get c.args.steps.now n ≡ Some t) e b)).0 (all.1 ((c.loop-step.invariant.before k s e a).1 h))
          | inr ne ↦ c.loop-step.invariant.satisfied.0 all.0 k s t (omega (arith, lt, ne)) a b h
        ]

    -- the step before this one, if its literal holds
    previous : ((k : ℕ) (s t : EdgeStep) → k + 1 < c.loop-step.step-index + 1 → slice_get c.args.steps.now k ≡ Some s → slice_get c.args.steps.now (k + 1) ≡ Some t →
        Holds c.args.ends.now (lit_of (node_at s)) → Holds c.args.ends.now (lit_of (node_at t))) → c.loop-step.before ≡ true → c.holds-holds.result ≡ true
    previous all so = elim (cases_eq c.loop-step.step-index 0) [
      | inl none ↦ absurd (false≢true (sym (c.loop-step.invariant.none none) ∙ so))
      | inr some ↦ (
          let k = c.loop-step.step-index - 1 in
          let e : k + 1 ≡ c.loop-step.step-index = omega (arith, some) in
          let lt = c.loop-step-test.true in
          let s = slice_get-some c.args.steps.now k (omega (arith, lt, e)) in
          let there = subst (λ n. slice_get c.args.steps.now n ≡ Some c.step-item.result) (sym e) here in
          let h = (c.loop-step.invariant.before k s.0 e s.1).0 so in
          (holds c.step-item.result here).1 (all k s.0 c.step-item.result (omega (arith, e)) s.1 there h)
          )
    ]

    back : ((k : ℕ) (s t : EdgeStep) → k + 1 < c.loop-step.step-index + 1 → slice_get c.args.steps.now k ≡ Some s → slice_get c.args.steps.now (k + 1) ≡ Some t →
        Holds c.args.ends.now (lit_of (node_at s)) → Holds c.args.ends.now (lit_of (node_at t))) → (c.loop-step.satisfied && (not c.loop-step.before || c.holds-holds.result)) ≡ true
    back all = join c.loop-step.satisfied c.loop-step.before c.holds-holds.result (c.loop-step.invariant.satisfied.1 (λ k s t lt. all k s t (omega (arith, lt)))) (previous all)

pub returns : goal.returns
returns c = (
  λ so k s t a b. let lt = slice_get_within c.args.steps.now (k + 1) t b in let past = c.loop-step-test.false in c.loop-step.invariant.satisfied.0 so k s t (omega (arith, lt, past)) a b,
  λ all. c.loop-step.invariant.satisfied.1 (λ k s t lt a b. all k s t a b),
)
