use Rattle.std.proofs.Common.{ℕ, ◌<◌}
use Rattle.line_rules.specs.GivenLabels.{ServedAt}
use Rattle.line_rules.proofs.edges.edge_rules.find_unserved.Given as goal

abbrev pub invariant-loop-place : goal.invariant-loop-place
invariant-loop-place l = (j : ℕ) → j < l.place → ServedAt l.file j
