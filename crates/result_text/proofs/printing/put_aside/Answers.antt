use Rattle.std.proofs.Common.{ap, append_assoc}
use Rattle.std.specs.Fmt.{decimal}
use Rattle.tor_io.proofs.Putting.{puts_as, puts_then}
use Rattle.result_text.specs.Text.{line_text}
use Rattle.result_text.proofs.printing.put_aside.Goals as goal

pub returns : goal.returns
unfolding line_text
returns g c =
    λ v. puts_as (puts_then (puts_as c.put.ensures c.aside_start.ensures) (puts_then (puts_as c.put_number.ensures (ap decimal c.get.ensures)) c.put_byte.ensures))
    (simp append_assoc)
