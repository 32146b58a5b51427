use Rattle.std.proofs.lemmas.Option.{slice_get-get_or}
use Rattle.rank_text.specs.RankText.{barred}
use Rattle.rank_text.proofs.Items.{item_more}
use Rattle.rank_text.proofs.lines.put_numbers.Goals as goal

pub loop-number-preserved : goal.loop-number-preserved
loop-number-preserved g c =
    let numbers = c.args.numbers.now in
    let at = c.loop-number.number-index in
    item_more barred numbers at _ (slice_get-get_or numbers at 0 c.loop-number-test.true) c.loop-number.invariant c.put_number_behind.ensures
