-- What grading makes of paths by the relationships that were found for them: exactly the kept ones are free.
use Rattle.std.specs.Prelude.{◌≡◌, ◌≢◌, ℕ, ◌<◌, List, All, Ok, Option, Some, map}
use Rattle.std.specs.List.{AllPairs}
use Rattle.std.specs.Io.KnownBytes.{append_known}
use Rattle.tor_io.specs.Contents.{Files}
use Rattle.relationships.specs.declared.given.Given.{Given}
use Rattle.as_rel.specs.declared.givens.KnownLines.{KnownLines}
use Rattle.path_table.specs.Rows.{row_paths}
use Rattle.dump_read.specs.declared.taking.Taken.{Taken}
use Rattle.result_text.specs.declared.file.ResultFile.{ResultFile}
use Rattle.rel_infer.specs.SelfAcceptance.{AreTableRows}
use Rattle.as_rel.specs.declared.line.RelLine.{RelLine}
use Rattle.as_rel.specs.Serial.{rel_in}
use Rattle.as_rel.specs.Keeping.{ExactlyKeptAreFree}
use Rattle.as_rel.specs.Labelled.{ends_of, line_of_edge}
use Rattle.tor_words.specs.declared.settings.Settings.{Settings}
use Rattle.tor_words.specs.declared.task.Made.TheVariants.{Serial}
use Rattle.tor_words.specs.Given.{settings_given}
use Rattle.tor_output.specs.Output.{Faithful, givens_for, made_by, paths_taken}
use Rattle.tor_output.specs.Seen.{ComesTo, Reads}

-- the text is read as relationships under which exactly the paths that are kept under the givens are free, and none is unknown
pub record GradesExactly (givens : List Given) (paths : List (List ℕ)) (text : List ℕ) : Type 0 where
  pub lines : List RelLine
  pub read : rel_in text ≡ Ok lines
  pub graded : ExactlyKeptAreFree givens paths lines

-- under the lines of the edges of a result exactly the kept paths are free, and none is unknown
abbrev pub GradingLaw : Type 0
GradingLaw =
    (settings : Settings) (known : Option KnownLines) (taken : Taken) (file : ResultFile) → AreTableRows taken.table.rows →
    Faithful settings known taken file →
    ExactlyKeptAreFree (givens_for settings known taken) (row_paths (paths_taken settings taken)) (map line_of_edge file.edges)

-- the lower AS of each edge of a result stands first, and no two of its edges are the same
abbrev pub ResultEndsLaw : Type 0
ResultEndsLaw =
    (settings : Settings) (known : Option KnownLines) (taken : Taken) (file : ResultFile) → AreTableRows taken.table.rows →
    Faithful settings known taken file → All (λ e. e.low < e.high) file.edges × AllPairs (λ e f. ends_of e ≢ ends_of f) file.edges

-- the words ask for lines of serial-1
abbrev pub AsksForSerial : List (List ℕ) → Type 0
AsksForSerial words = (settings : Settings) × (settings_given words ≡ Some settings) × (made_by settings.job ≡ Some Serial)

-- a sink gained a text that grades exactly, for the paths of the dumps that the words name
pub record GainsGrading (words : List (List ℕ)) (files : Files) (old new : Option (List ℕ)) : Type 0 where
  pub settings : Settings
  pub given : settings_given words ≡ Some settings
  pub known : Option KnownLines
  pub taken : Taken
  pub seen : ComesTo settings files (Reads known taken)
  pub text : List ℕ
  pub gained : new ≡ append_known old text
  pub exact : GradesExactly (givens_for settings known taken) (row_paths (paths_taken settings taken)) text
