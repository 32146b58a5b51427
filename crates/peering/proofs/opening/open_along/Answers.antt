use Rattle.std.proofs.Common.{rules, ◌≡◌, ◌≤◌, ◌<◌, ◌⊎◌, ◌↔◌, ◌∙◌, true, false, List, IsTrue, IsFalse, get_or, set, length, sym, ap, subst, arith}
use Rattle.std.proofs.lemmas.List.{length-set, take_all}
use Rattle.std.proofs.lemmas.Bool.{false≢true}
use Rattle.as_graph.specs.declared.step.Step.{Step}
use Rattle.peering.specs.Peerings.{HasStep}
use Rattle.peering.proofs.Besides.{opened_next, not_opened, is_opened}
use Rattle.peering.proofs.opening.open_along.Goals as goal
use Rattle.peering.proofs.opening.open_along.Goals.{then-not-excluded-place, else-not-excluded-place}

pub loop-step-preserved : goal.loop-step-preserved
loop-step-preserved c =
    let excluded = c.args.excluded.now in
    let now = c.loop-step.opened.items in
    let step : Step = c.step-item.result in
    let placed = c.place-place.ensures.place ∙ c.edge.ensures in
    let index = c.loop-step.step-index in
    let inside : step.edge < length excluded = search rules in
    let long = c.loop-step.invariant.long in
    elim c.if-not-excluded-place.branch [
      | then-not-excluded-place w ↦
          let f : IsFalse (get_or excluded c.place-place.result false) = search rules in
          let is : c.if-not-excluded-place.opened.items ≡ set now c.place-place.result true = search rules in
          let some : c.if-not-excluded-place.is_some ≡ true = search rules in
          let new_is : c.if-not-excluded-place.opened.items ≡ set now step.edge true = is ∙ ap (λ k. set now k true) placed in
          opened_next excluded c.args.steps.now c.args.opened.now.items now c.if-not-excluded-place.opened.items index step
          c.loop-step.is_some c.if-not-excluded-place.is_some c.loop-step-test.true (sym c.step-item.is)
          (ap length new_is ∙ length-set now step.edge true)
          (λ k. subst (λ l. IsTrue (get_or l k false) ↔ (IsTrue (get_or now k false) ⊎ (IsFalse (get_or excluded k false) × (step.edge ≡ k)))) (sym new_is)
          (is_opened excluded now step.edge k (omega (arith, inside, long)) (subst (λ n. IsFalse (get_or excluded n false)) placed f)))
          (λ no_more. absurd (false≢true (sym no_more ∙ some)))
          c.loop-step.invariant
      | else-not-excluded-place w ↦
          let t : IsTrue (get_or excluded c.place-place.result false) = search rules in
          let is : c.if-not-excluded-place.opened.items ≡ now = search rules in
          let same : c.if-not-excluded-place.is_some ≡ c.loop-step.is_some = search rules in
          opened_next excluded c.args.steps.now c.args.opened.now.items now c.if-not-excluded-place.opened.items index step
          c.loop-step.is_some c.if-not-excluded-place.is_some c.loop-step-test.true (sym c.step-item.is)
          (ap length is)
          (λ k. subst (λ l. IsTrue (get_or l k false) ↔ (IsTrue (get_or now k false) ⊎ (IsFalse (get_or excluded k false) × (step.edge ≡ k)))) (sym is)
          (not_opened excluded now step.edge k (subst (λ n. IsTrue (get_or excluded n false)) placed t)))
          (λ no_more. (sym same ∙ no_more, subst (λ n. IsTrue (get_or excluded n false)) placed t))
          c.loop-step.invariant
    ]

pub returns-clause-opened : goal.returns-clause-opened
returns-clause-opened c = λ k.
    let steps = c.args.steps.now in
    let test = c.loop-step-test.false in
    let le : length steps ≤ c.loop-step.step-index = omega (arith, test) in
    let all = take_all c.loop-step.step-index steps le in
    subst (λ (l : List Step). IsTrue (get_or c.loop-step.opened.items k false) ↔
    (IsTrue (get_or c.args.opened.now.items k false) ⊎ (IsFalse (get_or c.args.excluded.now k false) × HasStep l k))) all (c.loop-step.invariant.each k)

pub returns-clause-none : goal.returns-clause-none
returns-clause-none c = λ f k e.
    let steps = c.args.steps.now in
    let test = c.loop-step-test.false in
    let le : length steps ≤ c.loop-step.step-index = omega (arith, test) in
    let all = take_all c.loop-step.step-index steps le in
    c.loop-step.invariant.none f k (subst (λ (l : List Step). HasStep l k) (sym all) e)
