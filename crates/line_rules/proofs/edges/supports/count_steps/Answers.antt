use Rattle.std.proofs.Common.{◌<◌, ◌∙◌, length, take, get_or, arith, nat_eq, length-take}
use Rattle.std.proofs.lemmas.List.{get_or_default}
use Rattle.std.proofs.lemmas.List.Sums.{count_by-le-length}
use Rattle.line_rules.specs.declared.edges.step.Step.{Step}
use Rattle.line_rules.specs.PathSteps.{place_in}
use Rattle.line_rules.proofs.edges.supports.count_steps.Goals as goal

pub overflow_add-index_mut : goal.overflow_add-index_mut
overflow_add-index_mut c =
    let steps = c.args.steps.now in
    let i = c.loop-step.step-index in
    let none : Step = record { code = 0 } in
    let step = get_or steps i none in
    let counts = c.loop-step.counts.items in
    let k = c.place.result in
    let edge = c.place.ensures in
    let within : place_in step < length c.args.counts.now.items = c.requires.inside i none c.loop-step-test.true in
    let long = c.loop-step.invariant.long in
    let here = c.index_mut.ensures.value ∙ get_or_default counts k c.index_mut.result.now 0 (omega (arith, edge, within, long)) in
    let was = c.loop-step.invariant.counted k in
    let few = c.requires.few k in
    let le = count_by-le-length (λ (s : Step). nat_eq (place_in s) k) (take i steps) in
    let n = length-take i steps in
    let short = c.requires.short in
    omega (arith, here, was, few, le, n, short)
