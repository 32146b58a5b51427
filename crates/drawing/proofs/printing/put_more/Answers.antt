use Rattle.std.proofs.Common.{◌∙◌, ◌++◌, ap, codes}
use Rattle.tor_io.proofs.Putting.{puts_as, puts_then}
use Rattle.drawing.specs.Svg.{group_words}
use Rattle.drawing.proofs.printing.put_more.Goals as goal

pub returns : goal.returns
returns g c =
    let group = ap (λ w. codes " more " ++ (w ++ c.ending.result.now)) c.group_words.ensures in
    let end = ap (λ w. codes " more " ++ (group_words c.args.group ++ w)) c.ending.ensures in
    puts_then c.put_thousands.ensures (puts_as c.put_between.ensures (group ∙ end))
