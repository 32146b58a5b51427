use Rattle.rel_infer.proofs.Turning.{turned_more}
use Rattle.rel_infer.proofs.earlier_ends.turn_all.Goals as goal

pub loop-given-preserved : goal.loop-given-preserved
loop-given-preserved c =
    turned_more c.args.graph.now c.args.givens.now c.loop-given.given-index _ c.args.ends.now c.loop-given.ends c.turn.new.ends c.loop-given-test.true c.loop-given.invariant c.turn.ensures
