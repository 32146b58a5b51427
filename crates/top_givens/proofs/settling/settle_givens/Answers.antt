use Rattle.top_givens.proofs.Bindings.{settles_given}
use Rattle.top_givens.proofs.settling.settle_givens.Goals as goal

pub loop-given-preserved : goal.loop-given-preserved
loop-given-preserved c =
    settles_given c.args.top.now c.args.givens.now c.loop-given.given-index _ c.args.settled.now c.loop-given.settled c.settle_pair.new.settled c.loop-given-test.true
    c.loop-given.invariant c.in_ok-settle_pair.ensures
