use Rattle.top_givens.proofs.Bindings.{bound_behind}
use Rattle.top_givens.proofs.binding.bind_behind.Goals as goal

pub returns : goal.returns
returns c =
    bound_behind c.args.top.now c.args.givens.now c.as_slice.result.now c.bind_paths.new.givens c.args.others.now c.args.paths.now c.args.first c.args.settled.now
    c.settle_givens.new.settled c.settle_pairs.new.settled c.settle_paths.new.settled c.bind_paths.new.settled c.bind_paths.result c.as_slice.ensures c.requires.none
    c.in_ok-settle_givens.ensures c.in_ok-settle_pairs.ensures c.in_ok-settle_paths.ensures c.bind_paths.ensures
