use Rattle.std.proofs.Common.{append_assoc}
use Rattle.result_text.specs.Text.{line_text}
use Rattle.tor_io.proofs.Putting.{puts_as, puts_then}
use Rattle.result_text.proofs.printing.put_end.Goals as goal

pub returns : goal.returns
unfolding line_text
returns g c = λ v. puts_as (puts_then c.put.ensures (puts_then c.put_number_behind.ensures (puts_then c.put_number_behind-2.ensures (puts_then c.put_number_behind-3.ensures (puts_then c.put_number_behind-4.ensures (puts_then c.put_number_behind-5.ensures c.put_byte.ensures)))))) (simp append_assoc)
