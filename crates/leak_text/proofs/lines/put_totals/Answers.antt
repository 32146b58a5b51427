use Rattle.std.proofs.Common.{append_assoc}
use Rattle.tor_io.proofs.Putting.{puts_as, puts_then}
use Rattle.leak_text.proofs.lines.put_totals.Goals as goal

pub returns : goal.returns
returns g c =
    puts_as (puts_then c.put.ensures (puts_then c.put_number_behind.ensures (puts_then c.put_number_behind-2.ensures (puts_then c.put_number_behind-3.ensures
    (puts_then c.put_number_behind-4.ensures (puts_then c.put_number_behind-5.ensures c.put_byte.ensures)))))) (simp append_assoc)
