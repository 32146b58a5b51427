use Rattle.std.proofs.Common.{◌≡◌, length}
use Rattle.std.specs.List.{fold, flat_map, before_first, list_any}
use Rattle.path_segments.specs.PathOf.{is_confed}
use Rattle.path_merge.specs.Merging.{is_mixed_set, ases_of}
use Rattle.path_merge.specs.Merging.{merged_behind, GoesBehind}
use Rattle.path_merge.proofs.merging.append_segments.Given as goal

-- with the segments that are left the path comes to what it is with all, among them stands what stands among all, and what stood
-- before the path is there
abbrev pub invariant-segments : goal.invariant-segments
invariant-segments l =
    (fold (merged_behind l.start) l.numbers.items (flat_map ases_of (before_first is_mixed_set l.left))
    ≡ fold (merged_behind l.fn.start) l.fn.numbers.items (flat_map ases_of (before_first is_mixed_set l.fn.segments)))
    × (list_any is_mixed_set l.left ≡ list_any is_mixed_set l.fn.segments)
    × (list_any (λ segment. is_confed segment.kind) l.left ≡ list_any (λ segment. is_confed segment.kind) l.fn.segments)
    × GoesBehind l.fn.numbers.items l.numbers.items

abbrev pub decreases-segments : goal.decreases-segments
decreases-segments l = length l.left
