use Rattle.top_givens.proofs.Bindings.{settles_path}
use Rattle.top_givens.proofs.settling.settle_path.Goals as goal

pub loop-place-preserved : goal.loop-place-preserved
loop-place-preserved c =
    settles_path c.args.top.now c.args.path.now c.loop-place.place c.args.settled.now c.loop-place.settled c.settle_pair.new.settled c.loop-place.auto.place
    c.loop-place-test.true c.loop-place.invariant c.in_ok-settle_pair.ensures
