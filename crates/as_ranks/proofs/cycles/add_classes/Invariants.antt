use Rattle.std.proofs.Common.{take}
use Rattle.as_ranks.specs.Linking.{AreLineClasses}
use Rattle.as_ranks.proofs.cycles.add_classes.Given as goal

abbrev pub invariant-loop-line : goal.invariant-loop-line
invariant-loop-line l = AreLineClasses l.parts l.ases (take l.line-index l.lines) l.of.items
