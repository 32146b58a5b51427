use Rattle.as_graph.proofs.ReturnLemmas.{adds_more, adds_room}
use Rattle.as_graph.proofs.building.add_returns.Goals as goal

pub add_return-requires-clause-few : goal.add_return-requires-clause-few
add_return-requires-clause-few c =
    adds_room c.args.edges.now c.args.givens.now c.loop-given.given-index c.args.rows.now c.loop-given.rows c.loop-given.invariant c.requires.once c.requires.few

pub loop-given-preserved : goal.loop-given-preserved
loop-given-preserved c =
    adds_more c.args.edges.now c.args.givens.now c.loop-given.given-index _ c.args.rows.now c.loop-given.rows c.add_return.new.rows c.loop-given-test.true
    c.loop-given.invariant c.in_ok-add_return.ensures
