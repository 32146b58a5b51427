use Rattle.std.proofs.Common.{◌≡◌, ◌++◌, map, take}
use Rattle.std.specs.Prelude.{decimal}
use Rattle.std.specs.List.{join_with_byte}
use Rattle.tor_io.specs.Contents.{PassesOn}
use Rattle.tor_io.proofs.buffer.Buffer.put_members.Given as goal

-- the numbers so far have passed on, and no fault was counted
abbrev pub invariant-loop-place : goal.invariant-loop-place
invariant-loop-place g l =
    let sink = g.S.Sink in
    record {
      passed : PassesOn (sink.held l.fn.sink) (sink.held l.sink) l.self (l.fn.self ++ join_with_byte l.byte (map decimal (take l.place l.numbers)));
      quiet : sink.faults l.sink ≡ sink.faults l.fn.sink;
    }
