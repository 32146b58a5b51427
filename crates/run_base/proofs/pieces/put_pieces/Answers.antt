use Rattle.std.proofs.Common.{◌++◌, ◌∙◌}
use Rattle.tor_io.specs.Contents.{GainsPrefix}
use Rattle.tor_io.proofs.Passing.{at_error}
use Rattle.run_base.specs.Pieces.{pieces_text}
use Rattle.run_base.proofs.PieceLines.{piece_passed, piece_stopped}
use Rattle.run_base.proofs.pieces.put_pieces.Goals as goal

pub returns-in_err-put_piece-clause-prefix : goal.returns-in_err-put_piece-clause-prefix
returns-in_err-put_piece-clause-prefix g c =
    let held = g.O.Sink.held in
    at_error c.from_residual.result (GainsPrefix (held c.args.out.now) (held c.put_piece.new.out) (c.args.buffer.now ++ pieces_text c.args.pieces.now))
    (piece_stopped c.args.pieces.now c.loop-piece.piece-index _ (held c.args.out.now) (held c.loop-piece.out) (held c.put_piece.new.out) c.args.buffer.now c.loop-piece.buffer
    c.loop-piece-test.true c.loop-piece.invariant.passed c.in_err-put_piece.ensures.prefix)

pub loop-piece-preserved : goal.loop-piece-preserved
loop-piece-preserved g c =
    let held = g.O.Sink.held in
    record {
      passed = piece_passed c.args.pieces.now c.loop-piece.piece-index _ (held c.args.out.now) (held c.loop-piece.out) (held c.put_piece.new.out) c.args.buffer.now c.loop-piece.buffer
          c.put_piece.new.buffer c.loop-piece-test.true c.loop-piece.invariant.passed c.in_ok-put_piece.ensures.all;
      quiet = c.in_ok-put_piece.ensures.cause.quiet ∙ c.loop-piece.invariant.quiet;
    }
