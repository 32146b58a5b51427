use Rattle.std.proofs.Common.{◌≡◌}
use Rattle.tor_mend.proofs.mending.nearer_side.Given as goal

abbrev pub invariant-loop : goal.invariant-loop
invariant-loop l = l.trail.nodes.count ≡ l.fitted.formula.net.nodes
