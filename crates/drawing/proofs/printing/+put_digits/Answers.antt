use Rattle.std.proofs.Common.{sym, arith}
use Rattle.tor_io.proofs.Putting.{puts_as, puts_then}
use Rattle.drawing.proofs.Commas.{few_digits, more_digits}
use Rattle.drawing.proofs.printing.+put_digits.Goals as goal

pub returns-then-n-lt1000 : goal.returns-then-n-lt1000
returns-then-n-lt1000 g bound c = puts_as c.put_number.ensures (sym (few_digits c.args.commas c.args.n c.if-n-lt1000.true))

pub returns : goal.returns
returns g bound c =
    let some = c.if-commas-eq0.false in
    let many = c.if-n-lt1000.false in
    puts_as (puts_then c.put_digits.ensures c.put_three.ensures) (sym (more_digits c.args.commas c.args.n (omega (arith, some)) (omega (arith, many))))
