use Rattle.std.proofs.Common.{refl}
use Rattle.result_text.specs.Text.{line_text}
use Rattle.tor_io.proofs.Putting.{puts_as, puts_then}
use Rattle.result_text.proofs.printing.put_given.Goals as goal

pub returns : goal.returns
unfolding line_text
returns g c = λ v. puts_as (puts_then c.put.ensures c.put_pair.ensures) refl
