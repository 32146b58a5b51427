use Rattle.std.proofs.Common.{ℕ, ◌<◌}
use Rattle.line_rules.specs.Serving.{MarkedAt}
use Rattle.line_rules.proofs.marks.borne_marks.first_unborne.Given as goal

abbrev pub invariant-loop-k : goal.invariant-loop-k
invariant-loop-k l = (j : ℕ) → j < l.k → MarkedAt l.file j
