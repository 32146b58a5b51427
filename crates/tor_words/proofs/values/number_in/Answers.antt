use Rattle.tor_words.proofs.Numbers.{number_in-none, number_in-some}
use Rattle.tor_words.proofs.values.number_in.Goals as goal

pub returns-then-number-high-clause-value : goal.returns-then-number-high-clause-value
returns-then-number-high-clause-value c =
    let read = c.in-Ok.ensures.value.0 in
    number_in-some c.args.low c.args.high c.in-Ok.number c.args.text.now read.0 read.1 c.if-low-number.true c.if-number-high.true

pub returns-in-Err-clause-value : goal.returns-in-Err-clause-value
returns-in-Err-clause-value c = number_in-none c.args.low c.args.high c.args.text.now c.in-Err.ensures.value.0
