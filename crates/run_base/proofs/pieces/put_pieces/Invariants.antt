use Rattle.std.proofs.Common.{◌≡◌, ◌++◌, take}
use Rattle.tor_io.specs.Contents.{PassesOn}
use Rattle.run_base.specs.Pieces.{pieces_text}
use Rattle.run_base.proofs.pieces.put_pieces.Given as goal

-- the pieces so far have passed on, and no fault was counted
abbrev pub invariant-loop-piece : goal.invariant-loop-piece
invariant-loop-piece g l =
    let sink = g.O.Sink in
    record {
      passed : PassesOn (sink.held l.fn.out) (sink.held l.out) l.buffer (l.fn.buffer ++ pieces_text (take l.piece-index l.pieces));
      quiet : sink.faults l.out ≡ sink.faults l.fn.out;
    }
