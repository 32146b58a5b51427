use Rattle.std.proofs.Common.{◌≡◌, length, is_some}
use Rattle.path_segments.specs.Segments.{segments_of}
use Rattle.path_segments.proofs.cursor.SegmentCursor.over.Given as goal

-- the rest is well formed exactly if the value is
abbrev pub invariant-segments : goal.invariant-segments
invariant-segments l = is_some (segments_of l.width l.rest) ≡ is_some (segments_of l.width l.value)

abbrev pub decreases-segments : goal.decreases-segments
decreases-segments l = length l.rest
