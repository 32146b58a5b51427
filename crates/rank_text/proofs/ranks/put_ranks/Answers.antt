use Rattle.std.proofs.lemmas.Option.{slice_get-get_or}
use Rattle.rank_text.specs.RankText.{rank_line}
use Rattle.rank_text.proofs.Items.{item_more}
use Rattle.rank_text.proofs.ranks.put_ranks.Goals as goal

pub loop-rank-preserved : goal.loop-rank-preserved
loop-rank-preserved g c =
    let ranks = c.args.ranks.now in
    let at = c.loop-rank.rank-index in
    item_more rank_line ranks at _ (slice_get-get_or ranks at _ c.loop-rank-test.true) c.loop-rank.invariant c.put_rank.ensures
