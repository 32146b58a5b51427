use Rattle.std.proofs.Common.{◌∷◌, ◌++◌, [], map, subst}
use Rattle.std.specs.Prelude.{decimal, OnOk, OnErr}
use Rattle.std.specs.List.{join_with_byte}
use Rattle.tor_io.specs.Contents.{GainsPrefix, PassesOn}
use Rattle.tor_io.proofs.Passing.{first_stops, rest_passes, rest_stops}
use Rattle.tor_io.proofs.Members.{row_parts}
use Rattle.tor_io.proofs.buffer.Buffer.put_row_slowly.Goals as goal

pub returns-in_err-put_number_and-clause-prefix : goal.returns-in_err-put_number_and-clause-prefix
returns-in_err-put_number_and-clause-prefix g c =
    let held = g.S.Sink.held in
    let numbers = join_with_byte c.args.byte (map decimal c.args.numbers.now) in
    subst (λ t. OnErr c.from_residual.result (GainsPrefix (held c.args.sink.now) (held c.put_number_and.new.sink) (c.args.self.now ++ t)))
    (row_parts (decimal c.args.n) numbers c.args.bar c.args.last)
    (first_stops c.from_residual.result (held c.args.sink.now) (held c.put_number_and.new.sink) c.args.self.now
    (decimal c.args.n ++ c.args.bar ∷ []) (numbers ++ c.args.last ∷ []) c.in_err-put_number_and.ensures.prefix)

pub returns-clause-all : goal.returns-clause-all
returns-clause-all g c =
    let held = g.S.Sink.held in
    let numbers = join_with_byte c.args.byte (map decimal c.args.numbers.now) in
    subst (λ t. OnOk c.put_members_and.result (PassesOn (held c.args.sink.now) (held c.put_members_and.new.sink) c.put_members_and.new.self (c.args.self.now ++ t)))
    (row_parts (decimal c.args.n) numbers c.args.bar c.args.last)
    (rest_passes c.put_members_and.result (held c.args.sink.now) (held c.put_number_and.new.sink) (held c.put_members_and.new.sink) c.args.self.now c.put_number_and.new.self c.put_members_and.new.self
    (decimal c.args.n ++ c.args.bar ∷ []) (numbers ++ c.args.last ∷ []) c.in_ok-put_number_and.ensures.all c.put_members_and.ensures.all)

pub returns-clause-prefix : goal.returns-clause-prefix
returns-clause-prefix g c =
    let held = g.S.Sink.held in
    let numbers = join_with_byte c.args.byte (map decimal c.args.numbers.now) in
    subst (λ t. OnErr c.put_members_and.result (GainsPrefix (held c.args.sink.now) (held c.put_members_and.new.sink) (c.args.self.now ++ t)))
    (row_parts (decimal c.args.n) numbers c.args.bar c.args.last)
    (rest_stops c.put_members_and.result (held c.args.sink.now) (held c.put_number_and.new.sink) (held c.put_members_and.new.sink) c.args.self.now c.put_number_and.new.self
    (decimal c.args.n ++ c.args.bar ∷ []) (numbers ++ c.args.last ∷ []) c.in_ok-put_number_and.ensures.all c.put_members_and.ensures.prefix)
