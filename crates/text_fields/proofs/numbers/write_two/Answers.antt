use Rattle.std.proofs.Common.{◌∙◌, ◌++◌, ℕ, ◌+◌, List, take, sym, ap, arith}
use Rattle.std.proofs.lemmas.Fmt.{decimal_digit}
use Rattle.std.proofs.lemmas.List.{take_more_set}
use Rattle.text_fields.proofs.Padding.{length_one, length_two, decimal_two}
use Rattle.text_fields.proofs.numbers.write_two.Goals as goal

pub returns-then-n-lt10-clause-end : goal.returns-then-n-lt10-clause-end
returns-then-n-lt10-clause-end c = omega (arith, length_one c.args.n c.if-n-lt10.true)

pub returns-then-n-lt10-clause-digits : goal.returns-then-n-lt10-clause-digits
returns-then-n-lt10-clause-digits c =
    take_more_set c.args.bytes.now c.args.at (48 + c.args.n) (omega (arith, c.requires.1))
    ∙ ap (λ (digits : List ℕ). take c.args.at c.args.bytes.now ++ digits) (sym (decimal_digit c.args.n c.if-n-lt10.true))

pub returns-clause-end : goal.returns-clause-end
returns-clause-end c = omega (arith, length_two c.args.n c.if-n-lt10.false c.requires.0)

pub returns-clause-digits : goal.returns-clause-digits
returns-clause-digits c =
    c.write_two_padded.ensures.digits ∙ ap (λ (digits : List ℕ). take c.args.at c.args.bytes.now ++ digits) (sym (decimal_two c.args.n c.if-n-lt10.false c.requires.0))
