-- On which line of its text each thing of a result stands. Lines are counted from 1, and so are the givens, paths, edges,
-- walks and open lines of a result.
use Rattle.std.specs.Prelude.{◌≡◌, ℕ, ◌+◌, ◌≤◌, List, length, take, Some, slice_get}
use Rattle.path_clean.specs.declared.cleaned.Cause.{Cause}
use Rattle.path_clean.specs.Counts.{cause_count}
use Rattle.relationships.specs.declared.given.Given.{Given}
use Rattle.relationships.specs.declared.walk.Walk.{Walk}
use Rattle.result_text.specs.declared.file.PathLine.{PathLine}
use Rattle.result_text.specs.declared.file.EdgeLine.{EdgeLine}
use Rattle.relationships.specs.declared.mark.Probe.{Probe}
use Rattle.result_text.specs.declared.file.ResultFile.{ResultFile}
use Rattle.result_text.specs.declared.line.Line.{Line}
use Rattle.result_text.specs.declared.line.Line.TheVariants as line
use Rattle.result_text.specs.Text.{its_givens, version_of, lines_of, text_of_lines, text}
use Rattle.result_text.specs.Order.{cause_index}
use Rattle.result_text.specs.Grammar.{first_lines}

abbrev pub ratio_line : ℕ
ratio_line = 3

abbrev pub aside_line : Cause → ℕ
aside_line cause = 4 + cause_index cause

-- the line of each by its number
abbrev pub given_line : ResultFile → ℕ → ℕ
given_line file number = 10 + number

abbrev pub path_line : ResultFile → ℕ → ℕ
path_line file number = 10 + length (its_givens file) + number

abbrev pub edge_line : ResultFile → ℕ → ℕ
edge_line file number = 10 + length (its_givens file) + length file.paths + number

abbrev pub why_line : ResultFile → ℕ → ℕ
why_line file number = 10 + length (its_givens file) + length file.paths + length file.edges + number

abbrev pub probe_line : ResultFile → ℕ → ℕ
probe_line file number = 10 + length (its_givens file) + length file.paths + length file.edges + length file.whys + number

abbrev pub last_line : ResultFile → ℕ
last_line file =
    11 + length (its_givens file) + length file.paths + length file.edges + length file.whys + length file.probes

-- the line of this number
abbrev pub IsLineAt : ResultFile → ℕ → Line → Type 0
IsLineAt file number l = (place : ℕ) × (number ≡ place + 1) × (slice_get (lines_of file) place ≡ Some l)

-- each of these stands on the line that its own number has, from 1
abbrev pub StandOn : {X : Type 0} → ResultFile → (ℕ → ℕ) → (X → Line) → List X → Type 0
StandOn {X} file line_for line_with xs =
    (place : ℕ) (x : X) → slice_get xs place ≡ Some x → IsLineAt file (line_for (place + 1)) (line_with x)

-- the numbers above are those of the lines
pub record IsNumbered (file : ResultFile) : Type 0 where
  pub ratio : IsLineAt file ratio_line (line.Ratio file.ratio)
  pub asides : (cause : Cause) → IsLineAt file (aside_line cause) (line.Aside cause (cause_count cause file.asides))
  pub givens : StandOn file (given_line file) (λ (given : Given). line.Given given) (its_givens file)
  pub paths : StandOn file (path_line file) (λ (path : PathLine). line.Path path) file.paths
  pub edges : StandOn file (edge_line file) (λ (edge : EdgeLine). line.Edge edge) file.edges
  pub whys : StandOn file (why_line file) (λ (walk : Walk). line.Why walk) file.whys
  pub probes : StandOn file (probe_line file) (λ (probe : Probe). line.Probe probe) file.probes
  pub last : IsLineAt file (last_line file) (line.End file.totals)
  pub count : length (lines_of file) ≡ last_line file

-- the first lines of the text, each with its line feed, are the texts of the first lines
abbrev pub LinesAreOfText : ResultFile → Type 0
LinesAreOfText file =
    (count : ℕ) → count ≤ last_line file →
    first_lines count (text file) ≡ Some (text_of_lines (version_of file.givens) (take count (lines_of file)))
