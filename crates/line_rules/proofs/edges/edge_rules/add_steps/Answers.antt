use Rattle.std.proofs.Common.{◌+◌, subst, sym, arith}
use Rattle.line_rules.proofs.StepLemmas.{Walked, Walked-room, Walked-more}
use Rattle.line_rules.proofs.edges.edge_rules.add_steps.Goals as goal

pub add_step-requires : goal.add_step-requires
add_step-requires c =
    let h = Walked-room c.args.table.now c.loop-at.table c.args.path.now c.loop-at.at c.loop-at.steps c.loop-at.invariant c.loop-at-test.true in
    let room = c.requires.room in
    record { room = omega (arith, h, room) }

pub loop-at-preserved : goal.loop-at-preserved
loop-at-preserved c =
    subst (Walked c.args.table.now c.add_step.new.table c.args.path.now (c.loop-at.at + 1)) (sym c.in_ok-push.ensures.ok)
    (Walked-more c.args.table.now c.loop-at.table c.args.path.now c.loop-at.at c.loop-at.steps c.in_ok-step.step c.add_step.new.table
    c.loop-at.invariant c.loop-at-test.true c.in_ok-step.ensures.edge c.in_ok-step.ensures.step)
