use Rattle.std.proofs.Common.{◌≡◌, ◌<◌, ◌++◌, take, Ok}
use Rattle.std.specs.Prelude.{IfSome}
use Rattle.std.specs.Io.KnownBytes.{IsAtEnd}
use Rattle.run_base.specs.Reading.{IsOfSomeDumps, seen_from}
use Rattle.run_base.proofs.reading.read_dumps.Given as goal

-- the dumps so far were read to their ends, and no call on the shelf failed
abbrev pub invariant-loop-place : goal.invariant-loop-place
invariant-loop-place g l =
    let shelf = g.H.Shelf in
    record {
      seen : IfSome (shelf.files l.fn.shelf) (λ files.
          seen_from l.wanted 1 l.fn.taken (take l.place l.dumps) files ≡ Ok l.taken);
      some : IsOfSomeDumps l.wanted l.place l.fn.taken l.taken;
      read_out : 0 < l.place → IsAtEnd (shelf.left l.shelf);
      files : shelf.files l.shelf ≡ shelf.files l.fn.shelf;
      opens : shelf.opens l.shelf ≡ shelf.opens l.fn.shelf ++ take l.place l.dumps;
      quiet : shelf.faults l.shelf ≡ shelf.faults l.fn.shelf;
      steady : shelf.steady l.fn.shelf → shelf.steady l.shelf;
    }
