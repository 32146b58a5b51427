use Rattle.std.proofs.Common.{rules, ◌≡◌, ◌<◌, ◌-◌, ◌∙◌, false, length, get_or, slice_get, Some, sym, ap, subst, arith}
use Rattle.std.proofs.lemmas.Option.{slice_get-get_or}
use Rattle.as_graph.specs.declared.step.Step.{Step}
use Rattle.peering.specs.Peerings.{IsPairAdded}
use Rattle.peering.proofs.Besides.{paired_next, paired_all}
use Rattle.peering.proofs.opening.add_pairs.Goals as goal

pub loop-at-preserved : goal.loop-at-preserved
loop-at-preserved c =
    let steps = c.args.steps.now in
    let excluded = c.args.excluded.now in
    let now = c.loop-at.partners in
    let new = c.add_pair.new.partners in
    let at = c.loop-at.at in
    let test = c.loop-at-test.true in
    let first : Step = c.index-steps-at.result in
    let second : Step = c.index-steps-at-in-loop-at.result in
    let before : at - 1 < length steps = omega (arith, test) in
    let first_at : slice_get steps (at - 1) ≡ Some first = slice_get-get_or steps (at - 1) first before ∙ ap (λ (s : Step). Some s) (sym c.index-steps-at.is) in
    let second_at : slice_get steps at ≡ Some second = slice_get-get_or steps at second test ∙ ap (λ (s : Step). Some s) (sym c.index-steps-at-in-loop-at.is) in
    let first_in : first.edge < length now = search rules in
    let second_in : second.edge < length now = search rules in
    let pair : IsPairAdded (get_or excluded first.edge false) (get_or excluded second.edge false) first.edge second.edge now new =
    subst (λ b. IsPairAdded (get_or excluded first.edge false) (get_or excluded b false) first.edge b now new) c.edge-in-loop-at.ensures
    (subst (λ a. IsPairAdded (get_or excluded a false) (get_or excluded c.edge-in-loop-at.result false) a c.edge-in-loop-at.result now new) c.edge.ensures
    c.in_ok-add_pair.ensures.added) in
    paired_next excluded steps c.args.partners.now now new at first second first_at second_at first_in second_in pair c.loop-at.invariant

pub returns-clause-all : goal.returns-clause-all
returns-clause-all c = paired_all c.args.excluded.now c.args.steps.now c.args.partners.now c.loop-at.partners c.loop-at.at c.loop-at-test.false c.loop-at.invariant
