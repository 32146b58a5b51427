use Rattle.std.proofs.Common.{ℕ, ◌<◌}
use Rattle.result_rules.specs.declared.rule.Rule.{Rule}
use Rattle.result_rules.specs.Rules.{Asks}
use Rattle.line_rules.proofs.edges.edge_rules.find_unlisted.Given as goal

abbrev pub invariant-loop-place : goal.invariant-loop-place
invariant-loop-place l = (j : ℕ) → j < l.place → Asks l.file Rule.EdgesListed j
