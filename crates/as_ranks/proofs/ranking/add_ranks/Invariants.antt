use Rattle.std.proofs.Common.{take}
use Rattle.as_ranks.specs.Tallies.{AreTallied}
use Rattle.as_ranks.proofs.ranking.add_ranks.Given as goal

abbrev pub invariant-loop-line : goal.invariant-loop-line
invariant-loop-line l = AreTallied (take l.line-index l.lines) l.ases l.cones l.ranks.items
