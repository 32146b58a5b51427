use Rattle.std.proofs.Common.{◌∙◌, ◌++◌, List, ℕ, length-set, map, take, ap, arith}
use Rattle.std.specs.Fmt.{decimal}
use Rattle.std.specs.List.{join_with_byte}
use Rattle.std.proofs.lemmas.List.{take_more_set}
use Rattle.text_fields.proofs.Joins.{row_written}
use Rattle.text_fields.proofs.numbers.write_row.Goals as goal

pub returns-clause-digits : goal.returns-clause-digits
returns-clause-digits c =
    let first = c.write_number-middle in
    let joined = c.write_joined-end in
    row_written c.args.n c.args.bar c.args.byte c.args.last c.args.numbers.now (take c.args.at c.args.bytes.now) (take first.result first.new.bytes) (take joined.result joined.new.bytes) _
    first.ensures.digits
    (joined.ensures.digits ∙ ap (λ (t : List ℕ). t ++ join_with_byte c.args.byte (map decimal c.args.numbers.now))
    (take_more_set first.new.bytes first.result c.args.bar (omega (arith, first.ensures.within, first.ensures.length, c.requires))))
    (take_more_set joined.new.bytes joined.result c.args.last
    (omega (arith, first.ensures.within, first.ensures.length, joined.ensures.within, joined.ensures.length, length-set first.new.bytes first.result c.args.bar, c.requires)))
