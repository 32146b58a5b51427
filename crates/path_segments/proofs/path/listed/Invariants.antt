use Rattle.std.proofs.Common.{◌≡◌, ◌++◌, length}
use Rattle.path_segments.proofs.path.listed.Given as goal

-- the segments so far, and those that are left
abbrev pub invariant-segments : goal.invariant-segments
invariant-segments l = l.found ++ l.left ≡ l.fn.segments

abbrev pub decreases-segments : goal.decreases-segments
decreases-segments l = length l.left
