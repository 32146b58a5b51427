use Rattle.std.proofs.Common.{ap}
use Rattle.std.specs.Fmt.{decimal}
use Rattle.tor_io.proofs.Putting.{puts_as, puts_then}
use Rattle.drawing.proofs.printing.put_as.Goals as goal

pub returns : goal.returns
returns g c = puts_then c.put.ensures ((puts_as c.put_number.ensures (ap decimal c.from.ensures)))
