use Rattle.std.proofs.lemmas.Option.{slice_get-get_or}
use Rattle.rank_text.specs.RankText.{inside_line}
use Rattle.rank_text.proofs.Items.{item_more}
use Rattle.rank_text.proofs.cycles.put_insides.Goals as goal

pub loop-line-preserved : goal.loop-line-preserved
loop-line-preserved g c =
    let lines = c.args.lines.now in
    let at = c.loop-line.line-index in
    item_more inside_line lines at _ (slice_get-get_or lines at _ c.loop-line-test.true) c.loop-line.invariant c.put_inside.ensures
