use Rattle.std.proofs.Common.{◌++◌, ◌∷◌, [], ap, append_assoc}
use Rattle.std.specs.Fmt.{decimal}
use Rattle.tor_io.proofs.Putting.{puts_as, puts_then}
use Rattle.telling.proofs.writing.put_going.Goals as goal

pub returns : goal.returns
returns g c =
    let row = puts_as c.put_row.ensures (ap (λ n. decimal n ++ (124 ∷ decimal c.args.to) ++ 124 ∷ []) c.from.ensures) in
    puts_as (puts_then c.put.ensures (puts_then row (puts_as c.put-2.ensures c.going_end.ensures))) (simp append_assoc)
