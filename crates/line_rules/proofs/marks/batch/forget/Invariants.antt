use Rattle.std.proofs.Common.{take}
use Rattle.line_rules.specs.Batches.{HasForgotten}
use Rattle.line_rules.proofs.marks.batch.forget.Given as goal

abbrev pub invariant-loop-edge : goal.invariant-loop-edge
invariant-loop-edge l = HasForgotten (take l.edge-index l.found) l.fn.rounds.items l.rounds.items
