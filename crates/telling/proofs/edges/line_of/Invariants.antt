use Rattle.std.proofs.Common.{◌≢◌, ◌≡◌, ◌<◌, ℕ, Some}
use Rattle.std.specs.Prelude.{slice_get}
use Rattle.relationships.specs.Graph.{edge_of}
use Rattle.result_text.specs.declared.file.EdgeLine.{EdgeLine}
use Rattle.telling.specs.Told.{edge_on}
use Rattle.telling.proofs.edges.line_of.Given as goal

-- no line before this one is that of the edge
abbrev pub invariant-loop-line : goal.invariant-loop-line
invariant-loop-line l = (k : ℕ) (line : EdgeLine) → k < l.line-index → slice_get l.file.edges k ≡ Some line → edge_on line ≢ edge_of l.one l.other
