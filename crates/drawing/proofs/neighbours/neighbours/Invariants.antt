use Rattle.drawing.proofs.Sorting.{AreFirst}
use Rattle.drawing.proofs.neighbours.neighbours.Given as goal

abbrev pub invariant-loop-edge : goal.invariant-loop-edge
invariant-loop-edge l = AreFirst l.asked l.group l.edges l.edge-index l.found.items
