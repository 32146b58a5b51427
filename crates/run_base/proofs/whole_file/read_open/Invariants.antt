use Rattle.std.proofs.Common.{◌≡◌, ◌≤◌, ◌-◌, ◌+◌, length, vec_len}
use Rattle.std.specs.Io.KnownBytes.{prepend_known}
use Rattle.run_base.proofs.whole_file.read_open.Given as goal

-- the bytes so far stood in prefix of what is left, and no call on the shelf failed
abbrev pub invariant-parts : goal.invariant-parts
invariant-parts g l =
    let shelf = g.H.Shelf in
    record {
      taken : shelf.left l.fn.shelf ≡ prepend_known l.bytes (shelf.left l.shelf);
      few : length l.bytes ≤ l.fn.most + 1;
      room : vec_len l.buffer ≡ 65536;
      files : shelf.files l.shelf ≡ shelf.files l.fn.shelf;
      opens : shelf.opens l.shelf ≡ shelf.opens l.fn.shelf;
      quiet : shelf.faults l.shelf ≡ shelf.faults l.fn.shelf;
      steady : shelf.steady l.fn.shelf → shelf.steady l.shelf;
    }

abbrev pub decreases-parts : goal.decreases-parts
decreases-parts g l = l.fn.most + 1 - length l.bytes
