use Rattle.drawing.proofs.Choosing.{IsChoosing}
use Rattle.drawing.proofs.generation.choose.Given as goal

abbrev pub invariant-loop-neighbour : goal.invariant-loop-neighbour
invariant-loop-neighbour l = IsChoosing l.fn.nearer l.found l.neighbour-index l.chosen.items l.nearer
