use Rattle.std.proofs.Common.{◌≡◌, ◌∙◌, ◌++◌, [], Some, sym, ap, ap₂}
use Rattle.std.specs.Prelude.{codes}
use Rattle.std.specs.Option.{option_copied}
use Rattle.relationships.specs.Fates.{walk_of}
use Rattle.relationships.specs.Telling.{steps_of}
use Rattle.tor_io.proofs.Putting.{puts_as, puts_then}
use Rattle.telling.specs.WalkText.{begin_text, steps_text}
use Rattle.telling.specs.ToldText.{path_row}
use Rattle.telling.proofs.TextLemmas.{walk_read}
use Rattle.telling.proofs.writing.put_lost.Goals as goal

pub returns-in-Some : goal.returns-in-Some
returns-in-Some g c =
    let file = c.args.file.now in
    let line = c.args.line.now in
    let walk = c.in-Some.walk.now in
    let is : walk_of line.fate ≡ Some walk = sym c.walk.ensures ∙ ap option_copied c.in-Some.is in
    let begin = puts_as c.put_begin.ensures (ap (begin_text (codes "if")) c.ases.ensures) in
    let steps = puts_as (c.put_steps.ensures.puts [] c.requires.none) (ap (steps_text file []) (ap₂ steps_of c.ases-in-Some.ensures c.links.ensures)) in
    puts_as (puts_then c.put_path_line.ensures (puts_then begin steps)) (ap (λ t. path_row (codes "lost") line ++ t) (walk_read file line.fate walk is))
