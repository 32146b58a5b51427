use Rattle.std.proofs.Common.{◌∙◌, ℕ, List, ◌++◌, ◌∷◌, [], ap, ap₂, append_assoc}
use Rattle.std.specs.Fmt.{decimal}
use Rattle.result_text.specs.Text.{numbers_text}
use Rattle.tor_io.proofs.Putting.{puts_as, puts_then}
use Rattle.telling.proofs.WalkTextLemmas.{joined}
use Rattle.telling.proofs.writing.put_path_line.Goals as goal

pub returns : goal.returns
returns g c =
    let path = joined c.path.result.now ∙ ap numbers_text c.path.ensures in
    let row = puts_as c.put_row.ensures (ap₂ (λ (n : ℕ) (t : List ℕ). decimal n ++ (124 ∷ t) ++ 10 ∷ []) c.times.ensures path) in
    puts_as (puts_then c.put.ensures (puts_then c.put_byte.ensures row)) (simp append_assoc)
