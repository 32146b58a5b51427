use Rattle.std.proofs.Common.{take}
use Rattle.std.specs.List.{AllByRecursion}
use Rattle.result_text.specs.Ranges.{ProbeFits}
use Rattle.result_text.proofs.ranges.probes_fit.Given as goal

abbrev pub invariant-loop-probe : goal.invariant-loop-probe
invariant-loop-probe l = AllByRecursion ProbeFits (take l.probe-index l.probes)
