use Rattle.std.proofs.Common.{arith}
use Rattle.std.proofs.lemmas.Option.{slice_get_within}
use Rattle.tor_arena.proofs.Gets.{has-from_Contains}
use Rattle.showing_run.proofs.picture.has_edge.Goals as goal

pub returns-clause-none : goal.returns-clause-none
returns-clause-none c _ there =
    let edges = c.args.edges.now in
    let k = has-from_Contains edges there.0 there.1 in
    let lt = slice_get_within edges k.0 there.0 k.1 in
    c.loop-line.invariant k.0 there.0 (omega (arith, lt, c.loop-line-test.false, c.loop-line.auto.line-index-end)) k.1 there.2
