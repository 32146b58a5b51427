use Rattle.std.proofs.Common.{◌≡◌, length}
use Rattle.text_fields.specs.Reading.{digits_at}
use Rattle.text_fields.proofs.reading.digits_of.Given as goal

abbrev pub invariant-digits : goal.invariant-digits
invariant-digits l = digits_at l.number l.rest ≡ digits_at l.prefix l.bytes

abbrev pub decreases-digits : goal.decreases-digits
decreases-digits l = length l.rest
