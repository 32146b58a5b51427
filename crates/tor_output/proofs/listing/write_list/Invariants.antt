use Rattle.std.proofs.Common.{◌≡◌, ◌++◌, take}
use Rattle.tor_io.specs.Contents.{PassesOn}
use Rattle.tor_output.specs.Listing.{listing}
use Rattle.tor_output.proofs.listing.write_list.Given as goal

-- the lines so far have passed on, and no fault was counted
abbrev pub invariant-loop-place : goal.invariant-loop-place
invariant-loop-place g l =
    let sink = g.O.Sink in
    record {
      passed : PassesOn (sink.held l.fn.out) (sink.held l.out) l.buffer (l.fn.buffer ++ listing (take l.place l.paths));
      quiet : sink.faults l.out ≡ sink.faults l.fn.out;
    }
