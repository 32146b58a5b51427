use Rattle.std.proofs.Common.{◌≡◌, ◌≤◌, ◌-◌, ◌+◌, ℕ, List, length, vec_len}
use Rattle.std.specs.Io.KnownBytes.{prepend_known}
use Rattle.result_text.specs.Taking.{Takes}
use Rattle.result_file.proofs.reading.take_open.Given as goal

-- the octets that were taken stood before what is left, and no call on the shelf failed
abbrev pub invariant-parts : goal.invariant-parts
invariant-parts g l =
    let shelf = g.H.Shelf in
    record {
      octets : List ℕ;
      count : length octets ≡ l.taken;
      stood : shelf.left l.fn.shelf ≡ prepend_known octets (shelf.left l.shelf);
      took : Takes l.fn.parser l.parser octets;
      few : l.taken ≤ l.fn.most + 1;
      room : vec_len l.buffer ≡ 65536;
      files : shelf.files l.shelf ≡ shelf.files l.fn.shelf;
      opens : shelf.opens l.shelf ≡ shelf.opens l.fn.shelf;
      quiet : shelf.faults l.shelf ≡ shelf.faults l.fn.shelf;
      steady : shelf.steady l.fn.shelf → shelf.steady l.shelf;
    }

abbrev pub decreases-parts : goal.decreases-parts
decreases-parts g l = l.fn.most + 1 - l.taken
