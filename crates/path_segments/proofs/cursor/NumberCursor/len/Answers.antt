use Rattle.std.proofs.Common.{length, sym, ap, ◌∙◌}
use Rattle.path_segments.specs.Segments.{octets_in}
use Rattle.path_segments.proofs.Values.{numbers-length}
use Rattle.path_segments.proofs.cursor.NumberCursor.len.Goals as goal

pub returns : goal.returns
returns c =
    let self = c.self.inside in
    sym (numbers-length (octets_in self.width) self.count self.rest.now) ∙ ap length c.self.view_is
