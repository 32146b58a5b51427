-- What a result has to agree with where dumps are named: the counts, and the distinct paths in order with their times. This is
-- rule 11 of docs/FORMATS.md.
use Rattle.std.specs.Prelude.{◌≡◌, ℕ, ◌+◌, ◌-◌, ◌<◌, ◌≤◌, List, [], ◌∷◌, map, slice_get, nat_lt, if◌then◌else◌}
use Rattle.path_clean.specs.Counts.{CauseCounts}
use Rattle.path_table.specs.Rows.{Counted}
use Rattle.result_text.specs.declared.file.PathLine.{PathLine}
use Rattle.result_text.specs.declared.file.ResultFile.{ResultFile}
use Rattle.path_clean.specs.declared.cleaned.Cause.TheVariants.{NoPath}
use Rattle.result_text.specs.Numbering.{aside_line}
use Rattle.result_rules.specs.File.{path_line_number}
use Rattle.result_rules.specs.declared.verdict.Verdict.{Verdict}
use Rattle.result_rules.specs.declared.verdict.Verdict.TheVariants.{Yes, No}

-- the counts in the order of their lines
abbrev pub in_order : CauseCounts → List ℕ
in_order c = c.no_path ∷ c.bad_segments ∷ c.confed ∷ c.sets ∷ c.reserved ∷ c.loop ∷ c.short ∷ []

-- the path lines, each as a path and its times
abbrev pub row_of : PathLine → Counted
row_of line = record { path = line.path; times = line.times }

abbrev pub its_rows : ResultFile → List Counted
its_rows file = map row_of file.paths

-- the lines of the counts, the seven from that of the first cause on, and behind them the path lines agree. A path that is absent
-- counts as a line behind the others
pub record Agrees (file : ResultFile) (rows : List Counted) (counts : CauseCounts) (k : ℕ) : Type 0 where
  pub count : k < 7 → slice_get (in_order file.asides) k ≡ slice_get (in_order counts) k
  pub path : 7 ≤ k → slice_get (its_rows file) (k - 7) ≡ slice_get rows (k - 7)

-- the number of the line in place k of these
abbrev pub line_against : ResultFile → ℕ → ℕ
line_against file k = if nat_lt k 7 then aside_line NoPath + k else path_line_number file (k - 7)

-- the first line that doesn't agree
pub record Departs (file : ResultFile) (rows : List Counted) (counts : CauseCounts) (line rule : ℕ) : Type 0 where
  pub named : rule ≡ 11
  pub place : ℕ
  pub numbered : line ≡ line_against file place
  pub breach : Agrees file rows counts place → ⊥
  pub before : (j : ℕ) → j < place → Agrees file rows counts j

-- yes exactly if the counts and the paths with their times are these
abbrev pub JudgesAgainst : ResultFile → List Counted → CauseCounts → Verdict → Type 0
JudgesAgainst file rows counts Yes = (file.asides ≡ counts) × (its_rows file ≡ rows)
JudgesAgainst file rows counts (No line rule) = Departs file rows counts line rule
