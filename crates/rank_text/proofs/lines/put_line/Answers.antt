use Rattle.tor_io.proofs.Putting.{puts_then}
use Rattle.rank_text.proofs.lines.put_line.Goals as goal

pub returns : goal.returns
returns g c = puts_then c.put.ensures (puts_then c.put_numbers.ensures c.put_byte.ensures)
