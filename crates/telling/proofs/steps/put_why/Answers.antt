use Rattle.std.proofs.Common.{ap, ap₂}
use Rattle.relationships.specs.Telling.{steps_of}
use Rattle.telling.specs.WalkText.{begin_text, end_text, names_of, steps_text}
use Rattle.tor_io.proofs.Putting.{puts_as}
use Rattle.telling.proofs.NamingLemmas.{naming_as, text_then, then_text}
use Rattle.telling.proofs.steps.put_why.Goals as goal

pub returns : goal.returns
returns g c =
    let file = c.args.file.now in
    let begin = puts_as c.put_begin.ensures (ap (begin_text c.args.word.now) c.ases.ensures) in
    let same = ap₂ steps_of c.ases-2.ensures c.links.ensures in
    let steps = naming_as c.put_steps.ensures (λ before. ap (steps_text file before) same) (ap names_of same) in
    let end = puts_as c.put_end.ensures (ap end_text c.ases-3.ensures) in
    text_then begin (then_text steps end)
