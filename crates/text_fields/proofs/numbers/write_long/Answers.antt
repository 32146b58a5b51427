use Rattle.std.proofs.Common.{◌∙◌, ◌++◌, ◌/◌, ◌%◌, ℕ, List, take, ap, arith}
use Rattle.std.specs.Fmt.{decimal}
use Rattle.text_fields.specs.Padded.{eight_digits}
use Rattle.text_fields.proofs.Padding.{behind, decimal_by_eight, length_by_eight, at_most_twelve}
use Rattle.text_fields.proofs.numbers.write_long.Goals as goal

pub write_eight_padded-requires : goal.write_eight_padded-requires
write_eight_padded-requires c =
    let short = at_most_twelve (c.args.n / 100000000) (omega (arith, c.requires)) in
    (omega arith, omega (arith, short, c.requires, c.if-n-lt100000000.false, c.write_twelve-middle.ensures.end, c.write_twelve-middle.ensures.length))

pub returns-clause-end : goal.returns-clause-end
returns-clause-end c = omega (arith, length_by_eight c.args.n c.if-n-lt100000000.false c.ranges.n.fits, c.write_twelve-middle.ensures.end, c.write_eight_padded.ensures.end)

pub returns-clause-digits : goal.returns-clause-digits
returns-clause-digits c =
    behind (take c.args.at c.args.bytes.now) (decimal (c.args.n / 100000000)) (eight_digits (c.args.n % 100000000)) (decimal c.args.n) _
    (c.write_eight_padded.ensures.digits ∙ ap (λ (digits : List ℕ). digits ++ eight_digits (c.args.n % 100000000)) c.write_twelve-middle.ensures.digits)
    (decimal_by_eight c.args.n c.if-n-lt100000000.false c.ranges.n.fits)
