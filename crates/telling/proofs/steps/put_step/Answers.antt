use Rattle.std.proofs.Common.{◌++◌, ◌∷◌, [], ap, refl}
use Rattle.std.specs.Fmt.{decimal}
use Rattle.result_text.specs.declared.line.Version.TheVariants as version
use Rattle.result_text.specs.Text.{link}
use Rattle.telling.specs.WalkText.{named_text}
use Rattle.tor_io.proofs.Putting.{puts_as, puts_then}
use Rattle.telling.proofs.NamingLemmas.{naming_as, step_line, text_then, then_text}
use Rattle.telling.proofs.steps.put_step.Goals as goal

pub returns : goal.returns
returns g c =
    let row = puts_as c.put_row.ensures (ap (λ n. decimal n ++ (124 ∷ decimal c.args.under) ++ 124 ∷ []) c.from.ensures) in
    let l = c.args.link.now in
    let front = puts_then c.put.ensures (puts_then row c.put_link.ensures) in
    naming_as (then_text (text_then front c.put_named.ensures) c.put_byte.ensures) (λ before. step_line (decimal c.args.over) (decimal c.args.under) (link version.Two l) (named_text c.args.file.now before l.path l.at)) refl
