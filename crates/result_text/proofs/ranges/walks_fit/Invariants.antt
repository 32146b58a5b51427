use Rattle.std.proofs.Common.{take}
use Rattle.std.specs.List.{AllByRecursion}
use Rattle.result_text.specs.Ranges.{WalkFits}
use Rattle.result_text.proofs.ranges.walks_fit.Given as goal

abbrev pub invariant-loop-place : goal.invariant-loop-place
invariant-loop-place l = AllByRecursion WalkFits (take l.place l.walks)
