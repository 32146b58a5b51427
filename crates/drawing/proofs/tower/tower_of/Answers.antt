use Rattle.std.proofs.Common.{arith}
use Rattle.drawing.proofs.Towering.{raised_none, raised_one}
use Rattle.drawing.proofs.tower.tower_of.Goals as goal

pub loop-init : goal.loop-init
loop-init c =
    raised_none c.args.edges.now c.args.most c.args.groups.now.providers.items _ c.in_ok-tower.tower (c.in_ok-tower.ensures.begun c.args.edges.now)
    c.in_ok-tower.ensures.low

pub loop-preserved : goal.loop-preserved
loop-preserved c =
    raised_one c.args.edges.now c.args.most c.args.groups.now.providers.items _ c.loop.counter c.loop.tower c.raise.new.self c.loop.invariant
    c.in-Ok.ensures.raised c.in-Ok.ensures.low

pub returns-clause-all : goal.returns-clause-all
returns-clause-all c =
    let x = c.loop.invariant in
    let many = x.many in
    let end = c.saturating_sub-end.ensures in
    let stop = c.loop-test.false in
    let within = c.loop.auto.counter-end in (x.gs, omega (arith, many, end, stop, within), x.is)
