use Rattle.std.proofs.Common.{take}
use Rattle.line_rules.specs.Neighbours.{HasBack}
use Rattle.line_rules.proofs.marks.neighbours.Neighbours.add_to_each.Given as goal

abbrev pub invariant-loop-from : goal.invariant-loop-from
invariant-loop-from l = HasBack l.to (take l.from-index l.row) l.fn.self l.self
