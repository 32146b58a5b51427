use Rattle.std.proofs.Common.{◌++◌, ◌∷◌, [], ap, append_assoc}
use Rattle.std.specs.Fmt.{decimal}
use Rattle.tor_io.proofs.Putting.{puts_as, puts_then}
use Rattle.telling.proofs.numbers.put_pair.Goals as goal

pub returns : goal.returns
returns g c =
    let row = puts_as c.put_row.ensures (ap (λ n. decimal n ++ (124 ∷ decimal c.args.under) ++ 10 ∷ []) c.from.ensures) in
    puts_as (puts_then c.put.ensures (puts_then c.put_byte.ensures row)) (simp append_assoc)
