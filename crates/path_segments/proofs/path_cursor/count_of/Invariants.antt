use Rattle.std.proofs.Common.{◌≡◌, ◌+◌, length}
use Rattle.path_segments.specs.PathOf.{ases_in}
use Rattle.path_segments.proofs.path_cursor.count_of.Given as goal

-- those so far, and those that are left
abbrev pub invariant-segments : goal.invariant-segments
invariant-segments l = l.count + ases_in l.left ≡ ases_in l.fn.segments

abbrev pub decreases-segments : goal.decreases-segments
decreases-segments l = length l.left
