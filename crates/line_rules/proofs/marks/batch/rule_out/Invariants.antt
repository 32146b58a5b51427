use Rattle.std.proofs.Common.{take, Contains}
use Rattle.line_rules.specs.Batches.{HasRuledOut}
use Rattle.line_rules.proofs.marks.batch.rule_out.Given as goal

abbrev pub invariant-loop-edge : goal.invariant-loop-edge
invariant-loop-edge l = HasRuledOut l.implying l.round (Contains (take l.edge-index l.row)) l.fn.ruled.items l.ruled.items
