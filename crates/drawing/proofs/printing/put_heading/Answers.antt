use Rattle.tor_io.proofs.Putting.{puts_as, puts_then}
use Rattle.drawing.proofs.printing.put_heading.Goals as goal

pub returns : goal.returns
returns g c = puts_then (puts_as c.put.ensures c.group_words.ensures) c.put_byte.ensures
