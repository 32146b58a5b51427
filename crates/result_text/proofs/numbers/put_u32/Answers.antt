use Rattle.std.proofs.Common.{ap}
use Rattle.std.specs.Fmt.{decimal}
use Rattle.tor_io.proofs.Putting.{puts_as}
use Rattle.result_text.proofs.numbers.put_u32.Goals as goal

pub returns : goal.returns
returns g c = puts_as c.put_number.ensures (ap decimal c.from.ensures)
