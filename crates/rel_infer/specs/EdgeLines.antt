-- The edge lines of a result, from what is known of each edge.
use Rattle.std.specs.Prelude.{◌≡◌, ℕ, List, map}
use Rattle.relationships.specs.declared.label.Label.{Label}
use Rattle.relationships.specs.declared.mark.Mark.{Mark}
use Rattle.relationships.specs.Graph.{Edge}
use Rattle.result_text.specs.declared.file.EdgeLine.{EdgeLine}

-- a line for each of these edges, with its label, its mark and its support
pub record AreLinesOf (es : List Edge) (labels : List Label) (marks : List Mark) (supports : List ℕ) (lines : List EdgeLine) : Type 0 where
  pub its_edges : map (λ line. (line.low, line.high)) lines ≡ es
  pub its_labels : map (λ line. line.label) lines ≡ labels
  pub its_marks : map (λ line. line.mark) lines ≡ marks
  pub its_supports : map (λ line. line.support) lines ≡ supports
