use Rattle.std.proofs.Common.{ap, sym, arith}
use Rattle.std.proofs.lemmas.Option.{slice_get_past}
use Rattle.relationships.specs.declared.walk.Walk.{Walk}
use Rattle.telling.specs.WalkText.{if_there, names_of, walk_steps, why_text}
use Rattle.telling.proofs.NamingLemmas.{naming_as, naming_none}
use Rattle.telling.proofs.writing.put_why_at.Goals as goal

pub returns-else-place-len : goal.returns-else-place-len
returns-else-place-len g c =
    let file = c.args.file.now in
    let past = slice_get_past file.whys c.args.why (omega (arith, c.if-place-len.false, c.place.ensures.place, c.len.ensures.length)) in
    naming_as (naming_none _ c.args.named.now) (λ before. ap (if_there (why_text file c.args.word.now before)) (sym past)) (ap (if_there (λ (walk : Walk). names_of (walk_steps walk))) (sym past))
