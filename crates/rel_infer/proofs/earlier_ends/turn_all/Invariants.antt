use Rattle.std.proofs.Common.{take}
use Rattle.rel_infer.specs.FirstEnds.{AreTurned}
use Rattle.rel_infer.proofs.earlier_ends.turn_all.Given as goal

abbrev pub invariant-loop-given : goal.invariant-loop-given
invariant-loop-given l = AreTurned l.graph (take l.given-index l.givens) l.fn.ends l.ends
