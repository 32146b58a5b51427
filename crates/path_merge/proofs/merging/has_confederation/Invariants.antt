use Rattle.std.proofs.Common.{◌≡◌, length}
use Rattle.path_segments.specs.PathOf.{is_confed}
use Rattle.std.specs.List.{list_any}
use Rattle.path_merge.proofs.merging.has_confederation.Given as goal

abbrev pub invariant-segments : goal.invariant-segments
invariant-segments l = list_any (λ segment. is_confed segment.kind) l.left ≡ list_any (λ segment. is_confed segment.kind) l.fn.segments

abbrev pub decreases-segments : goal.decreases-segments
decreases-segments l = length l.left
