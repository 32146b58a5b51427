use Rattle.std.proofs.Common.{append_assoc}
use Rattle.result_text.specs.Text.{line_text}
use Rattle.tor_io.proofs.Putting.{puts_as, puts_then}
use Rattle.result_text.proofs.printing.put_why.Goals as goal

pub returns : goal.returns
unfolding line_text
returns g c = puts_as (puts_then c.put.ensures (puts_then c.put_walk.ensures c.put_byte.ensures)) (simp append_assoc)
