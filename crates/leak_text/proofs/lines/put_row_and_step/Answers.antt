use Rattle.std.proofs.Common.{◌++◌, ◌∷◌, [], ap, append_assoc}
use Rattle.std.specs.Fmt.{decimal}
use Rattle.tor_io.proofs.Putting.{puts_as, puts_then}
use Rattle.leak_text.proofs.LineLemmas.{joined_spaced}
use Rattle.leak_text.proofs.lines.put_row_and_step.Goals as goal

pub returns : goal.returns
returns g c =
    let row = puts_as c.put_row.ensures (ap (λ t. decimal c.args.times ++ (124 ∷ t) ++ 124 ∷ []) (joined_spaced decimal c.args.path.now)) in
    let step = puts_as c.put_number.ensures (ap decimal c.from.ensures) in
    puts_as (puts_then row (puts_then step c.put_byte.ensures)) (simp append_assoc)
