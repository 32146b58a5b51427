use Rattle.tor_solve.proofs.Marking.{AreMarkedTo}
use Rattle.tor_solve.proofs.strong.mark.Given as goal

abbrev pub invariant-loop-node : goal.invariant-loop-node
invariant-loop-node g l = AreMarkedTo g.N.Index.place_of l.nodes l.class l.node-index l.fn.classes.items l.classes.items
