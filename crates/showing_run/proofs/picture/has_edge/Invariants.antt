use Rattle.std.proofs.Common.{◌≡◌, ◌<◌, ◌⊎◌, ℕ, Some}
use Rattle.std.specs.Prelude.{slice_get}
use Rattle.result_text.specs.declared.file.EdgeLine.{EdgeLine}
use Rattle.showing_run.proofs.picture.has_edge.Given as goal

-- no edge before this one has the AS
abbrev pub invariant-loop-line : goal.invariant-loop-line
invariant-loop-line l = (k : ℕ) (line : EdgeLine) → k < l.line-index → slice_get l.edges k ≡ Some line → (line.low ≡ l.asked) ⊎ (line.high ≡ l.asked) → ⊥
