use Rattle.std.proofs.Common.{ap, ◌∙◌}
use Rattle.path_segments.specs.PathOf.{count_in}
use Rattle.path_segments.proofs.PathLemmas.{sequence_counts}
use Rattle.path_segments.proofs.cursor.SegmentRef.count.Goals as goal

pub returns-in-Sequence : goal.returns-in-Sequence
returns-in-Sequence c =
    let self = c.self.inside in
    sequence_counts self.width self.kind self.count self.octets.now c.in-Sequence.is ∙ ap count_in c.self.view_is
