use Rattle.std.proofs.Common.{[], sym, ap, ap₂}
use Rattle.relationships.specs.Telling.{steps_of}
use Rattle.tor_io.proofs.Putting.{puts_as, puts_then}
use Rattle.result_text.specs.declared.line.Version.TheVariants as version
use Rattle.telling.specs.WalkText.{steps_text}
use Rattle.telling.specs.ToldText.{whys_text, told_text}
use Rattle.telling.proofs.writing.put_told.Goals as goal

pub returns-in-Forced : goal.returns-in-Forced
returns-in-Forced g c =
    let file = c.args.file.now in
    let whys = puts_as c.put_whys.ensures (ap (whys_text file) c.as_slice.ensures) in
    puts_as (puts_then (c.put_edge.ensures version.Two) whys) (ap (told_text file) (sym c.in-Forced.is))

pub returns-in-Open : goal.returns-in-Open
returns-in-Open g c =
    let file = c.args.file.now in
    let steps = puts_as (c.put_steps.ensures.puts [] c.requires.none) (ap (steps_text file []) (ap₂ steps_of c.as_slice-in-Open.ensures c.as_slice-in-Open-2.ensures)) in
    puts_as (puts_then (puts_then (puts_then (c.put_edge-in-Open.ensures version.Two) c.put_pair.ensures) steps) c.put.ensures) (ap (told_text file) (sym c.in-Open.is))

pub returns-in-Peering : goal.returns-in-Peering
returns-in-Peering g c = puts_as (puts_then (c.put_edge-in-Peering.ensures version.Two) c.put-in-Peering.ensures) (ap (told_text c.args.file.now) (sym c.in-Peering.is))
