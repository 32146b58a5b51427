use Rattle.std.proofs.Common.{◌∷◌, ap, append_assoc}
use Rattle.std.specs.Fmt.{decimal}
use Rattle.tor_io.proofs.Putting.{puts_as, puts_then}
use Rattle.neighbour_text.proofs.writing.put_total.Goals as goal

pub returns : goal.returns
returns g c =
    let providers = puts_as c.put_number_behind.ensures (ap (λ n. 124 ∷ decimal n) c.len.ensures) in
    let peers = puts_as c.put_number_behind-2.ensures (ap (λ n. 124 ∷ decimal n) c.len-2.ensures) in
    let customers = puts_as c.put_number_behind-3.ensures (ap (λ n. 124 ∷ decimal n) c.len-3.ensures) in
    puts_as (puts_then c.put.ensures (puts_then providers (puts_then peers (puts_then customers c.put_byte.ensures)))) (simp append_assoc)
