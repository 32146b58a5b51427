use Rattle.std.proofs.Common.{◌++◌, ◌∷◌, [], ap}
use Rattle.std.specs.Fmt.{decimal}
use Rattle.tor_io.proofs.Putting.{puts_as}
use Rattle.result_text.proofs.printing.put_pair.Goals as goal

pub returns : goal.returns
returns g c = puts_as c.put_row.ensures (ap (λ n. decimal n ++ (124 ∷ decimal c.args.second) ++ c.args.last ∷ []) c.from.ensures)
