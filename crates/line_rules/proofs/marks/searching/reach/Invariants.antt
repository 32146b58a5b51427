use Rattle.std.proofs.Common.{◌+◌, ◌-◌, length}
use Rattle.line_rules.specs.Searching.{unvisited, Search}
use Rattle.line_rules.proofs.marks.searching.reach.Given as goal

abbrev pub invariant-loop-next : goal.invariant-loop-next
invariant-loop-next l = Search l.rows l.fn.start l.round l.fn.rounds.items l.rounds.items l.found l.next

abbrev pub decreases-loop-next : goal.decreases-loop-next
decreases-loop-next l = unvisited l.round l.rounds.items + (length l.found - l.next)
