use Rattle.std.proofs.Common.{◌∙◌, ◌++◌, ◌/◌, ◌%◌, ℕ, List, take, ap, arith}
use Rattle.std.specs.Fmt.{decimal}
use Rattle.text_fields.specs.Padded.{two_digits}
use Rattle.text_fields.proofs.Padding.{behind, decimal_by_two, length_by_two, at_most_two}
use Rattle.text_fields.proofs.numbers.write_four.Goals as goal

pub write_two_padded-requires : goal.write_two_padded-requires
write_two_padded-requires c = (omega arith, omega (arith, at_most_two (c.args.n / 100) (omega (arith, c.requires)), c.requires, c.write_two-middle.ensures.end, c.write_two-middle.ensures.length))

pub returns-clause-end : goal.returns-clause-end
returns-clause-end c = omega (arith, length_by_two c.args.n c.if-n-lt100.false (omega (arith, c.requires)), c.write_two-middle.ensures.end)

pub returns-clause-digits : goal.returns-clause-digits
returns-clause-digits c =
    behind (take c.args.at c.args.bytes.now) (decimal (c.args.n / 100)) (two_digits (c.args.n % 100)) (decimal c.args.n) _
    (c.write_two_padded.ensures.digits ∙ ap (λ (digits : List ℕ). digits ++ two_digits (c.args.n % 100)) c.write_two-middle.ensures.digits)
    (decimal_by_two c.args.n c.if-n-lt100.false (omega (arith, c.requires)))
