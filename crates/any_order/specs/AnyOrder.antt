-- What a result has to agree with where dumps are named that may stand in any order: the counts, and the set of the distinct paths, each
-- with its times. This is rule 11 of docs/FORMATS.md without the order of the paths.
use Rattle.std.specs.Prelude.{◌≡◌, ℕ, ◌-◌, ◌<◌, ◌≤◌, List, length, Contains, slice_get}
use Rattle.path_clean.specs.Counts.{CauseCounts}
use Rattle.path_table.specs.Rows.{Counted}
use Rattle.path_order.specs.Laws.{HaveSameRows}
use Rattle.result_text.specs.declared.file.ResultFile.{ResultFile}
use Rattle.result_rules.specs.Against.{in_order, its_rows, line_against}
use Rattle.result_rules.specs.Rules.{ForSome}
use Rattle.result_rules.specs.declared.verdict.Verdict.{Verdict}
use Rattle.result_rules.specs.declared.verdict.Verdict.TheVariants.{Yes, No}

-- the path line in this place has a path of the rows, with its times. Behind the last line there is none that no line has
pub record IsAmong (file : ResultFile) (rows : List Counted) (k : ℕ) : Type 0 where
  pub line : ForSome (its_rows file) k (Contains rows)
  pub end : k ≡ length file.paths → (row : Counted) → Contains rows row → Contains (its_rows file) row

-- the lines of the counts, the seven from that of the first cause on, agree, and behind them the path lines, as in rule 11
pub record AgreesInAnyOrder (file : ResultFile) (rows : List Counted) (counts : CauseCounts) (k : ℕ) : Type 0 where
  pub count : k < 7 → slice_get (in_order file.asides) k ≡ slice_get (in_order counts) k
  pub path : 7 ≤ k → IsAmong file rows (k - 7)

-- the first line that doesn't agree
pub record DepartsInAnyOrder (file : ResultFile) (rows : List Counted) (counts : CauseCounts) (line rule : ℕ) : Type 0 where
  pub named : rule ≡ 11
  pub place : ℕ
  pub numbered : line ≡ line_against file place
  pub breach : AgreesInAnyOrder file rows counts place → ⊥
  pub before : (j : ℕ) → j < place → AgreesInAnyOrder file rows counts j

-- yes exactly if the counts are these, and the paths with their times
abbrev pub JudgesInAnyOrder : ResultFile → List Counted → CauseCounts → Verdict → Type 0
JudgesInAnyOrder file rows counts Yes = (file.asides ≡ counts) × HaveSameRows (its_rows file) rows
JudgesInAnyOrder file rows counts (No line rule) = DepartsInAnyOrder file rows counts line rule
