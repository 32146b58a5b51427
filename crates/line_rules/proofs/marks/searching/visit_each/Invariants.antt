use Rattle.std.proofs.Common.{take}
use Rattle.line_rules.specs.Searching.{RoundComesTo}
use Rattle.line_rules.proofs.marks.searching.visit_each.Given as goal

abbrev pub invariant-loop-edge : goal.invariant-loop-edge
invariant-loop-edge l = RoundComesTo l.round (take l.edge-index l.row) l.fn.rounds.items l.rounds.items l.fn.found l.found
