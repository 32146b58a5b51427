use Rattle.std.proofs.Common.{◌≤◌, length}
use Rattle.order_trials.proofs.depth_search.next_node.Given as goal

abbrev pub invariant-loop-left : goal.invariant-loop-left
invariant-loop-left l = l.left ≤ length l.row

abbrev pub decreases-loop-left : goal.decreases-loop-left
decreases-loop-left l = l.left
