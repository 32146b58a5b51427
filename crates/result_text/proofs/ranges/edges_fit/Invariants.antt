use Rattle.std.proofs.Common.{take}
use Rattle.std.specs.List.{AllByRecursion}
use Rattle.result_text.specs.Ranges.{EdgeFits}
use Rattle.result_text.proofs.ranges.edges_fit.Given as goal

abbrev pub invariant-loop-edge : goal.invariant-loop-edge
invariant-loop-edge l = AllByRecursion EdgeFits (take l.edge-index l.edges)
