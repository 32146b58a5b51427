use Rattle.std.proofs.Common.{◌∷◌, []}
use Rattle.std.specs.Prelude.{decimal}
use Rattle.tor_io.proofs.Passing.{first_stops, rest_passes, rest_stops}
use Rattle.tor_io.proofs.buffer.Buffer.put_number_and.Goals as goal

pub returns-in_err-put_number-clause-prefix : goal.returns-in_err-put_number-clause-prefix
returns-in_err-put_number-clause-prefix g c =
    first_stops c.from_residual.result (g.S.Sink.held c.args.sink.now) (g.S.Sink.held c.put_number.new.sink) c.args.self.now (decimal c.args.n) (c.args.byte ∷ []) c.in_err-put_number.ensures.prefix

pub returns-clause-all : goal.returns-clause-all
returns-clause-all g c =
    rest_passes c.put_byte.result (g.S.Sink.held c.args.sink.now) (g.S.Sink.held c.put_number.new.sink) (g.S.Sink.held c.put_byte.new.sink)
    c.args.self.now c.put_number.new.self c.put_byte.new.self (decimal c.args.n) (c.args.byte ∷ []) c.in_ok-put_number.ensures.all c.put_byte.ensures.all

pub returns-clause-prefix : goal.returns-clause-prefix
returns-clause-prefix g c =
    rest_stops c.put_byte.result (g.S.Sink.held c.args.sink.now) (g.S.Sink.held c.put_number.new.sink) (g.S.Sink.held c.put_byte.new.sink)
    c.args.self.now c.put_number.new.self (decimal c.args.n) (c.args.byte ∷ []) c.in_ok-put_number.ensures.all c.put_byte.ensures.prefix
