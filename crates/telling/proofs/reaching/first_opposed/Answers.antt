use Rattle.std.proofs.Common.{◌≤◌, length, ap, arith}
use Rattle.tor_arena.proofs.Gets.{read_of}
use Rattle.telling.proofs.ReachLemmas.{none_next, none_all}
use Rattle.telling.proofs.reaching.first_opposed.Goals as goal

pub loop-probe-preserved : goal.loop-probe-preserved
loop-probe-preserved c =
    let file = c.args.file.now in
    let i = c.loop-probe.probe-index in
    none_next file c.args.all.now.edges c.args.reached.now.nodes i _ (read_of c.as_slice-probe-items.result.now file.probes i _ c.as_slice-probe-items.ensures c.loop-probe-test.true)
    c.in_default.ensures.none c.loop-probe.invariant

pub returns-clause-none : goal.returns-clause-none
returns-clause-none c =
    let file = c.args.file.now in
    let le : length file.probes ≤ c.loop-probe.probe-index = omega (arith, c.loop-probe-test.false, ap length c.as_slice-probe-items.ensures) in
    none_all file c.args.all.now.edges c.args.reached.now.nodes c.loop-probe.probe-index le c.loop-probe.invariant
