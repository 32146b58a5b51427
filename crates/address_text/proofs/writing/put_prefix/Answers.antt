use Rattle.std.proofs.Common.{◌∷◌, ap}
use Rattle.std.specs.Fmt.{decimal}
use Rattle.tor_io.proofs.Putting.{puts_as, puts_then}
use Rattle.address_text.proofs.writing.put_prefix.Goals as goal

pub returns : goal.returns
returns g c = puts_then c.put_address.ensures (puts_as c.put_number_behind.ensures (ap (λ n. 47 ∷ decimal n) c.from.ensures))
