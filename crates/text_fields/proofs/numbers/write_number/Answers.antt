use Rattle.std.proofs.Common.{arith}
use Rattle.text_fields.proofs.Padding.{at_most_twenty}
use Rattle.text_fields.proofs.numbers.write_number.Goals as goal

pub returns-then-n-lt1000000-clause-within : goal.returns-then-n-lt1000000-clause-within
returns-then-n-lt1000000-clause-within c = omega (arith, at_most_twenty c.args.n c.ranges.n.fits, c.write_six.ensures.end)

pub returns-else-n-lt1000000-clause-within : goal.returns-else-n-lt1000000-clause-within
returns-else-n-lt1000000-clause-within c = omega (arith, at_most_twenty c.args.n c.ranges.n.fits, c.write_long.ensures.end)
