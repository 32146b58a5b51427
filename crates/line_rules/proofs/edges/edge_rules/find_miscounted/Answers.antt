use Rattle.std.proofs.Common.{ap, length, arith}
use Rattle.line_rules.proofs.edges.edge_rules.find_miscounted.Goals as goal

pub returns : goal.returns
returns c = λ k lt. c.loop-place.invariant k (omega (arith, lt, c.loop-place-test.false, ap length c.as_slice-line-items.ensures))
