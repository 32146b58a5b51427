use Rattle.std.proofs.Common.{◌++◌, ◌∷◌, [], ◌∙◌, ap, sym}
use Rattle.std.specs.Fmt.{decimal}
use Rattle.tor_io.proofs.Putting.{puts_as, puts_then}
use Rattle.leak_text.specs.LeakText.{graded_row}
use Rattle.leak_text.proofs.LineLemmas.{free_line, joined_spaced, unknown_line, valley_line}
use Rattle.leak_text.proofs.lines.put_graded.Goals as goal

pub returns-in-Free : goal.returns-in-Free
returns-in-Free g c =
    let row = puts_as c.put_row.ensures (ap (λ t. decimal c.args.times ++ (124 ∷ t) ++ 10 ∷ []) (joined_spaced decimal c.args.path.now)) in
    puts_as (puts_then c.put.ensures row)
    (free_line c.args.times c.args.path.now ∙ ap (graded_row (record { path = c.args.path.now; times = c.args.times })) (sym c.in-Free.is))

pub returns-in-Valley : goal.returns-in-Valley
returns-in-Valley g c =
    puts_as (puts_then c.put-in-Valley.ensures c.put_row_and_step.ensures)
    (valley_line c.args.times c.args.path.now c.in-Valley.step ∙ ap (graded_row (record { path = c.args.path.now; times = c.args.times })) (sym c.in-Valley.is))

pub returns-in-Unknown : goal.returns-in-Unknown
returns-in-Unknown g c =
    puts_as (puts_then c.put-in-Unknown.ensures c.put_row_and_step-in-Unknown.ensures)
    (unknown_line c.args.times c.args.path.now c.in-Unknown.step ∙ ap (graded_row (record { path = c.args.path.now; times = c.args.times })) (sym c.in-Unknown.is))
