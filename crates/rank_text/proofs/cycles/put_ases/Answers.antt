use Rattle.tor_io.proofs.Putting.{puts_then}
use Rattle.rank_text.proofs.cycles.put_ases.Goals as goal

pub returns : goal.returns
returns g c = puts_then c.put.ensures c.put_row.ensures
