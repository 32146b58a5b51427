use Rattle.std.proofs.Common.{◌≡◌, ◌<◌, ◌⊎◌, ◌↔◌, ◌-◌, ◌∙◌, ℕ, false, IsTrue, get_or, length, slice_get, Some, sym, ap, subst, arith}
use Rattle.std.proofs.lemmas.Option.{slice_get-get_or, same_Some}
use Rattle.as_graph.specs.declared.step.Step.{Step}
use Rattle.peering.specs.Exclusions.{goes_up, IsOneExcluded}
use Rattle.peering.proofs.Along.{excluded_next, excluded_all}
use Rattle.peering.proofs.excluding.exclude_along.Goals as goal

pub loop-at-preserved : goal.loop-at-preserved
loop-at-preserved c =
    let steps = c.args.steps.now in
    let at = c.loop-at.at in
    let test = c.loop-at-test.true in
    let begun = c.loop-at.auto.at in
    let now = c.loop-at.excluded.items in
    let new = c.exclude_pair.new.excluded.items in
    let up = c.loop-at.up in
    let next_up = c.is_climb-next_up.result in
    let first : Step = c.index-steps-at-in-loop-at.result in
    let second : Step = c.index-steps-at-in-loop-at-2.result in
    let next : Step = c.index-steps-at.result in
    let before : at - 1 < length steps = omega (arith, test) in
    let first_at : slice_get steps (at - 1) ≡ Some first = slice_get-get_or steps (at - 1) first before ∙ ap (λ (s : Step). Some s) (sym c.index-steps-at-in-loop-at.is) in
    let second_at : slice_get steps at ≡ Some second = slice_get-get_or steps at second test ∙ ap (λ (s : Step). Some s) (sym c.index-steps-at-in-loop-at-2.is) in
    let next_at : slice_get steps at ≡ Some next = slice_get-get_or steps at next test ∙ ap (λ (s : Step). Some s) (sym c.index-steps-at.is) in
    let same : next ≡ second = same_Some _ _ (sym next_at ∙ second_at) in
    let pair : (k : ℕ) → IsTrue (get_or new k false) ↔ (IsTrue (get_or now k false) ⊎ IsOneExcluded up next_up first.edge second.edge k) =
    λ k. subst (λ e. IsTrue (get_or new k false) ↔ (IsTrue (get_or now k false) ⊎ IsOneExcluded up next_up first.edge e k)) c.edge-in-loop-at.ensures
    (subst (λ e. IsTrue (get_or new k false) ↔ (IsTrue (get_or now k false) ⊎ IsOneExcluded up next_up e c.edge-in-loop-at.result k)) c.edge.ensures (c.exclude_pair.ensures.excluded k)) in
    excluded_next c.args.ends.now steps c.args.excluded.now.items now new at first second up next_up first_at second_at
    (c.is_climb-next_up.ensures ∙ ap (goes_up c.args.ends.now) same) c.exclude_pair.ensures.long pair c.loop-at.invariant

pub returns-clause-excluded : goal.returns-clause-excluded
returns-clause-excluded c =
    excluded_all c.args.ends.now c.args.steps.now c.args.excluded.now.items c.loop-at.excluded.items c.loop-at.at c.loop-at.up c.loop-at-test.false c.loop-at.invariant
