use Rattle.line_rules.proofs.TurnedRows.{IsTurnedTo}
use Rattle.line_rules.proofs.marks.neighbours.Neighbours.turn_into.Given as goal

abbrev pub invariant-loop-place : goal.invariant-loop-place
invariant-loop-place l = IsTurnedTo l.self l.place l.turned
