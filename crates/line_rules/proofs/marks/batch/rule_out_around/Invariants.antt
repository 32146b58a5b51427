use Rattle.std.proofs.Common.{ℕ, take, Contains}
use Rattle.line_rules.specs.Batches.{HasRuledOut}
use Rattle.line_rules.specs.Neighbours.{HasNext}
use Rattle.line_rules.proofs.marks.batch.rule_out_around.Given as goal

abbrev pub invariant-loop-edge : goal.invariant-loop-edge
invariant-loop-edge l =
    HasRuledOut l.implying l.round (λ k. (i : ℕ) × Contains (take l.edge-index l.found) i × HasNext l.flips.conflicting i k) l.fn.ruled.items l.ruled.items
