use Rattle.top_givens.proofs.Bindings.{settles_listed}
use Rattle.top_givens.proofs.settling.settle_pairs.Goals as goal

pub loop-pair-preserved : goal.loop-pair-preserved
loop-pair-preserved c =
    settles_listed c.args.top.now c.args.pairs.now c.loop-pair.pair-index _ c.args.settled.now c.loop-pair.settled c.settle_pair.new.settled c.loop-pair-test.true
    c.loop-pair.invariant c.in_ok-settle_pair.ensures
