use Rattle.std.proofs.Common.{◌≡◌, filter, length}
use Rattle.path_segments.specs.PathOf.{is_outside}
use Rattle.path_segments.proofs.path_cursor.next_outside.Given as goal

-- those that were passed over are of confederations
abbrev pub invariant-segments : goal.invariant-segments
invariant-segments l = filter is_outside l.segments ≡ filter is_outside l.fn.segments

abbrev pub decreases-segments : goal.decreases-segments
decreases-segments l = length l.segments
