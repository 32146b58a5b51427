use Rattle.std.proofs.Common.{◌∙◌, ◌++◌, ◌/◌, ◌%◌, ℕ, List, take, ap, arith}
use Rattle.std.specs.Fmt.{decimal}
use Rattle.text_fields.specs.Padded.{four_digits}
use Rattle.text_fields.proofs.Padding.{behind, decimal_by_four, length_by_four, at_most_two}
use Rattle.text_fields.proofs.numbers.write_six.Goals as goal

pub write_four_padded-requires : goal.write_four_padded-requires
write_four_padded-requires c =
    let short = at_most_two (c.args.n / 10000) (omega (arith, c.requires)) in
    (omega arith, omega (arith, short, c.requires, c.write_two-middle.ensures.end, c.write_two-middle.ensures.length))

pub returns-clause-end : goal.returns-clause-end
returns-clause-end c = omega (arith, length_by_four c.args.n c.if-n-lt10000.false (omega (arith, c.requires)), c.write_two-middle.ensures.end, c.write_four_padded.ensures.end)

pub returns-clause-digits : goal.returns-clause-digits
returns-clause-digits c =
    behind (take c.args.at c.args.bytes.now) (decimal (c.args.n / 10000)) (four_digits (c.args.n % 10000)) (decimal c.args.n) _
    (c.write_four_padded.ensures.digits ∙ ap (λ (digits : List ℕ). digits ++ four_digits (c.args.n % 10000)) c.write_two-middle.ensures.digits)
    (decimal_by_four c.args.n c.if-n-lt10000.false (omega (arith, c.requires)))
