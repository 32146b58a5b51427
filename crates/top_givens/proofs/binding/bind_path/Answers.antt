use Rattle.top_givens.proofs.Bindings.{binds_path}
use Rattle.top_givens.proofs.binding.bind_path.Goals as goal

pub loop-place-preserved : goal.loop-place-preserved
loop-place-preserved c =
    binds_path c.args.top.now c.args.path.now c.loop-place.place c.args.settled.now c.loop-place.settled c.bind_pair.new.settled c.args.givens.now c.loop-place.givens
    c.bind_pair.new.givens c.loop-place.auto.place c.loop-place-test.true c.loop-place.invariant c.in_ok-bind_pair.ensures
