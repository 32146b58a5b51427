use Rattle.std.proofs.Common.{◌≤◌, length}
use Rattle.reach_counts.specs.Cycles.{AreClassLinks}
use Rattle.as_ranks.proofs.cycles.link.Given as goal

abbrev pub invariant-loop-left : goal.invariant-loop-left
invariant-loop-left l = record {
  linked : AreClassLinks l.of (length l.fn.first) l.left l.first l.next;
  inside : l.left ≤ length l.of;
}

abbrev pub decreases-loop-left : goal.decreases-loop-left
decreases-loop-left l = l.left
