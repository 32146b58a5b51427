use Rattle.std.proofs.Common.{◌∙◌, ◌-◌, ◌++◌, [], length, take, drop, ap}
use Rattle.std.specs.Prelude.{codes}
use Rattle.tor_io.proofs.Putting.{puts_as, puts_then}
use Rattle.telling.specs.ToldText.{why_at, names_at, further_text}
use Rattle.telling.proofs.TextLemmas.{all_whys}
use Rattle.telling.proofs.writing.put_whys.Goals as goal

pub returns-in-len1-up : goal.returns-in-len1-up
returns-in-len1-up g c =
    let file = c.args.file.now in
    let none = c.requires.none in
    let at = c.first-item.result in
    let first = c.put_why_at.ensures.puts [] none in
    let others = c.put_other_whys.ensures.puts (names_at file at) (c.put_why_at.ensures.named [] none) in
    let same = c.first-item.is in
    puts_as (puts_then first others) (ap (λ k. why_at file (codes "if") [] k ++ further_text file (names_at file k) (take (length c.args.whys.now - 1) (drop 1 c.args.whys.now))) same ∙ all_whys file c.args.whys.now at c.in-len1-up.len_at_least)
