use Rattle.std.proofs.Common.{◌≡◌, ◌++◌, take}
use Rattle.std.specs.List.{filter_map}
use Rattle.drawing.specs.Generations.{tie_of}
use Rattle.drawing.proofs.tower.put_ties.Given as goal

abbrev pub invariant-loop-edge : goal.invariant-loop-edge
invariant-loop-edge l = l.ties.items ≡ l.fn.ties.items ++ filter_map (tie_of l.lower l.upper) (take l.edge-index l.edges)
