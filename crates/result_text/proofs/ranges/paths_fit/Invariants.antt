use Rattle.std.proofs.Common.{take}
use Rattle.std.specs.List.{AllByRecursion}
use Rattle.result_text.specs.Ranges.{PathFits}
use Rattle.result_text.proofs.ranges.paths_fit.Given as goal

abbrev pub invariant-loop-place : goal.invariant-loop-place
invariant-loop-place l = AllByRecursion PathFits (take l.place l.paths)
