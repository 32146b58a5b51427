use Rattle.std.proofs.Common.{◌≡◌, ◌≤◌, length}
use Rattle.forced_edges.proofs.MarkSteps.{IsProbing}
use Rattle.forced_edges.proofs.probing.probe_all.Given as goal

abbrev pub invariant-loop-left : goal.invariant-loop-left
invariant-loop-left l = record {
  count : l.covered.count ≡ l.problem.formula.net.nodes;
  room : l.left ≤ length l.against;
  probing : IsProbing l.problem l.shown.items l.against l.fn.marks l.left l.marks l.covered.items;
}
