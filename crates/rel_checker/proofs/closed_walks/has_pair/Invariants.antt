use Rattle.std.proofs.Common.{◌≤◌}
use Rattle.rel_checker.proofs.ComingBacks.{NoneBefore}
use Rattle.rel_checker.proofs.closed_walks.has_pair.Given as goal

abbrev pub invariant-loop-at : goal.invariant-loop-at
invariant-loop-at l = (1 ≤ l.at) × NoneBefore l.ases l.x l.y l.at
