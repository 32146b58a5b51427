use Rattle.std.proofs.Common.{◌≡◌, ◌≤◌, ◌-◌, ◌^◌, min, vec_len}
use Rattle.mrt_frame.specs.Part.{Skips}
use Rattle.mrt_frame.specs.Reach.{ReadsUpTo}
use Rattle.mrt_frame.specs.Some.{HasReadSo}
use Rattle.mrt_frame.proofs.part.skip_part.Given as goal

abbrev pub invariant-parts : goal.invariant-parts
invariant-parts g l =
    let shelf = g.H.Shelf in
    record {
      files : shelf.files l.shelf ≡ shelf.files l.fn.shelf;
      opens : shelf.opens l.shelf ≡ shelf.opens l.fn.shelf;
      skipped : Skips (shelf.left l.fn.shelf) l.passed (shelf.left l.shelf);
      gathered : HasReadSo l.passed (shelf.left l.fn.shelf) (shelf.left l.shelf);
      reads : ReadsUpTo 0 l.passed (shelf.left l.fn.shelf) (shelf.left l.shelf);
      no_more : l.passed ≤ l.wanted;
      room : vec_len l.buffer ≡ min (2 ^ 16) l.wanted;
      quiet : shelf.faults l.shelf ≡ shelf.faults l.fn.shelf;
      steady : shelf.steady l.fn.shelf → shelf.steady l.shelf;
    }

abbrev pub decreases-parts : goal.decreases-parts
decreases-parts g l = l.wanted - l.passed
