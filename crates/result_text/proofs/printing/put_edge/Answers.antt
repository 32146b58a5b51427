use Rattle.std.proofs.Common.{append_assoc}
use Rattle.result_text.specs.Text.{line_text}
use Rattle.tor_io.proofs.Putting.{puts_as, puts_then}
use Rattle.result_text.proofs.printing.put_edge.Goals as goal

pub returns : goal.returns
unfolding line_text
returns g c = λ v. puts_as (puts_then c.put.ensures (puts_then c.put_pair.ensures (puts_then (puts_as c.put-2.ensures c.label_and_mark.ensures) (puts_then c.put_number_behind.ensures c.put_byte.ensures)))) (simp append_assoc)
