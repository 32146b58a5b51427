use Rattle.std.proofs.Common.{◌++◌, ◌∷◌, [], ap, append_assoc}
use Rattle.std.specs.Fmt.{decimal}
use Rattle.result_text.specs.Text.{line_text}
use Rattle.tor_io.proofs.Putting.{puts_as, puts_then}
use Rattle.result_text.proofs.Puts.{joined}
use Rattle.result_text.proofs.printing.put_lost.Goals as goal

pub returns : goal.returns
unfolding line_text
returns g c =
    let row = puts_as c.put_row.ensures (ap (λ t. decimal c.args.times ++ (124 ∷ t) ++ 124 ∷ []) (joined decimal c.args.path.now)) in
    puts_as (puts_then c.put.ensures (puts_then row (puts_then c.put_walk.ensures c.put_byte.ensures))) (simp append_assoc)
