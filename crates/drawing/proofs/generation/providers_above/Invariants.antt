use Rattle.drawing.proofs.Choosing.{AreAbove}
use Rattle.drawing.proofs.generation.providers_above.Given as goal

abbrev pub invariant-loop-edge : goal.invariant-loop-edge
invariant-loop-edge l = AreAbove l.drawn l.edges l.edge-index l.found.items
