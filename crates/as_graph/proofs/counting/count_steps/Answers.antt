use Rattle.std.proofs.Common.{◌<◌, ◌∙◌, length, take, subst, sym, arith, nat_eq, length-take}
use Rattle.std.proofs.lemmas.List.{get_or_default}
use Rattle.std.proofs.lemmas.List.Sums.{count_by-le-length}
use Rattle.as_graph.specs.declared.step.Step.{Step}
use Rattle.as_graph.proofs.counting.count_steps.Goals as goal

pub overflow_add-index_mut : goal.overflow_add-index_mut
overflow_add-index_mut c =
    let steps = c.args.steps.now in
    let i = c.loop-step.step-index in
    let step = c.step-item.result in
    let counts = c.loop-step.counts.items in
    let k = c.place.result in
    let edge = c.place.ensures.place in
    let within : step.edge < length c.args.counts.now.items =
    subst (λ (s : Step). s.edge < length c.args.counts.now.items) (sym c.step-item.is) (c.requires.inside i step c.loop-step-test.true) in
    let long = c.loop-step.invariant.long in
    let here = c.index_mut.ensures.value ∙ get_or_default counts k c.index_mut.result.now 0 (omega (arith, edge, within, long)) in
    let was = c.loop-step.invariant.counted k in
    let small = c.requires.small k 0 (omega (arith, edge, within)) in
    let le = count_by-le-length (λ (s : Step). nat_eq s.edge k) (take i steps) in
    let n = length-take i steps in
    let few = c.requires.few in
    omega (arith, here, was, small, le, n, few)
