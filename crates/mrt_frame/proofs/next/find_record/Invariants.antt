use Rattle.std.proofs.Common.{◌≡◌, ◌≤◌, ◌-◌, ◌+◌, ◌^◌}
use Rattle.mrt_frame.specs.Reach.{ReadsUpTo}
use Rattle.mrt_frame.specs.Some.{HasRead}
use Rattle.mrt_frame.proofs.Somes.{ArePassed}
use Rattle.mrt_frame.proofs.Passing.{HasPassed}
use Rattle.mrt_frame.specs.Counting.{CountsOn}
use Rattle.mrt_frame.proofs.next.find_record.Given as goal

abbrev pub invariant-records : goal.invariant-records
invariant-records g l =
    let shelf = g.H.Shelf in
    record {
      files : shelf.files l.shelf ≡ shelf.files l.fn.shelf;
      opens : shelf.opens l.shelf ≡ shelf.opens l.fn.shelf;
      passed : HasPassed (shelf.left l.fn.shelf) l.fn.start (shelf.left l.shelf) l.at;
      counted : CountsOn (shelf.left l.fn.shelf) l.fn.start l.fn.counts (shelf.left l.shelf) l.at l.counts;
      some : HasRead (shelf.left l.fn.shelf) (shelf.left l.shelf) (ArePassed l.fn.start l.fn.counts l.at l.counts);
      reads : ReadsUpTo l.fn.start.offset l.at.offset (shelf.left l.fn.shelf) (shelf.left l.shelf);
      onward : l.fn.start.offset ≤ l.at.offset;
      numbered : l.at.number ≤ l.at.offset + 1;
      near : l.at.offset ≤ 2 ^ 40;
      quiet : shelf.faults l.shelf ≡ shelf.faults l.fn.shelf;
      steady : shelf.steady l.fn.shelf → shelf.steady l.shelf;
    }

abbrev pub decreases-records : goal.decreases-records
decreases-records g l = 2 ^ 40 - l.at.offset
