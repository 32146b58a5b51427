use Rattle.std.proofs.Common.{◌≡◌, length}
use Rattle.path_segments.specs.PathOf.{has_no_confed}
use Rattle.path_segments.proofs.path_cursor.has_no_confed.Given as goal

abbrev pub invariant-segments : goal.invariant-segments
invariant-segments l = has_no_confed l.left ≡ has_no_confed l.fn.segments

abbrev pub decreases-segments : goal.decreases-segments
decreases-segments l = length l.left
