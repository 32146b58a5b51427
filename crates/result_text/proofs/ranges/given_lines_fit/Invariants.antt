use Rattle.std.proofs.Common.{take}
use Rattle.std.specs.List.{AllByRecursion}
use Rattle.result_text.specs.Ranges.{GivenFits}
use Rattle.result_text.proofs.ranges.given_lines_fit.Given as goal

abbrev pub invariant-loop-given : goal.invariant-loop-given
invariant-loop-given l = AllByRecursion GivenFits (take l.given-index l.givens)
