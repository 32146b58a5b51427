use Rattle.std.proofs.Common.{◌∷◌, [], map}
use Rattle.std.specs.Prelude.{decimal}
use Rattle.std.specs.List.{join_with_byte}
use Rattle.tor_io.proofs.Passing.{first_stops, rest_passes, rest_stops}
use Rattle.tor_io.proofs.buffer.Buffer.put_members_and.Goals as goal

pub returns-in_err-put_members-clause-prefix : goal.returns-in_err-put_members-clause-prefix
returns-in_err-put_members-clause-prefix g c =
    first_stops c.from_residual.result (g.S.Sink.held c.args.sink.now) (g.S.Sink.held c.put_members.new.sink) c.args.self.now
    (join_with_byte c.args.byte (map decimal c.args.numbers.now)) (c.args.last ∷ []) c.in_err-put_members.ensures.prefix

pub returns-clause-all : goal.returns-clause-all
returns-clause-all g c =
    rest_passes c.put_byte.result (g.S.Sink.held c.args.sink.now) (g.S.Sink.held c.put_members.new.sink) (g.S.Sink.held c.put_byte.new.sink)
    c.args.self.now c.put_members.new.self c.put_byte.new.self (join_with_byte c.args.byte (map decimal c.args.numbers.now)) (c.args.last ∷ []) c.in_ok-put_members.ensures.all c.put_byte.ensures.all

pub returns-clause-prefix : goal.returns-clause-prefix
returns-clause-prefix g c =
    rest_stops c.put_byte.result (g.S.Sink.held c.args.sink.now) (g.S.Sink.held c.put_members.new.sink) (g.S.Sink.held c.put_byte.new.sink)
    c.args.self.now c.put_members.new.self (join_with_byte c.args.byte (map decimal c.args.numbers.now)) (c.args.last ∷ []) c.in_ok-put_members.ensures.all c.put_byte.ensures.prefix
