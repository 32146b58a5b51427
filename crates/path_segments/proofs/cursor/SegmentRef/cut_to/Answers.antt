use Rattle.std.proofs.Common.{List, ℕ, ap, ◌∙◌}
use Rattle.path_segments.specs.Segments.{octets_in}
use Rattle.path_segments.specs.PathOf.{cut_to}
use Rattle.path_segments.proofs.PathLemmas.{numbers-cut}
use Rattle.path_segments.proofs.cursor.SegmentRef.cut_to.Goals as goal

pub returns : goal.returns
returns c =
    let self = c.self.inside in
    ap (λ (ases : List ℕ). record { kind = self.kind; ases = ases }) (numbers-cut (octets_in self.width) self.count c.args.most c.min.result self.octets.now c.min.ensures)
    ∙ ap (cut_to c.args.most) c.self.view_is
