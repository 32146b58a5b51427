use Rattle.std.proofs.Common.{ℕ, List, ◌++◌, take}
use Rattle.drawing.specs.Shifted.{HasNumbers}
use Rattle.drawing.proofs.Choosing.{numbers_of}
use Rattle.drawing.proofs.tower.add_numbers.Given as goal

abbrev pub invariant-loop-neighbour : goal.invariant-loop-neighbour
invariant-loop-neighbour l = (near : List ℕ) → HasNumbers l.fn.nearer near → HasNumbers l.nearer (near ++ numbers_of (take l.neighbour-index l.neighbours))
