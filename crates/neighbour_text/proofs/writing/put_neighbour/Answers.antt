use Rattle.std.proofs.Common.{◌∷◌, ap, append_assoc}
use Rattle.std.specs.Fmt.{decimal}
use Rattle.tor_io.proofs.Putting.{puts_as, puts_then}
use Rattle.neighbour_text.proofs.writing.put_neighbour.Goals as goal

pub returns : goal.returns
returns g c =
    let number = puts_as c.put_number_behind.ensures (ap (λ n. 124 ∷ decimal n) c.from.ensures) in
    let mark = puts_as c.put-2.ensures c.mark_field.ensures in
    puts_as (puts_then c.put.ensures (puts_then number (puts_then mark (puts_then c.put_number_behind-2.ensures c.put_byte.ensures)))) (simp append_assoc)
