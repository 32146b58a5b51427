-- What `torgrade` says of paths by the relationships that `tor` found for the same paths.
use Rattle.std.specs.Prelude.{◌≡◌, ◌++◌, ℕ, Bool, List, Contains, map, Option, Some}
use Rattle.tor_io.specs.Contents.{Files}
use Rattle.path_clean.specs.declared.cleaned.Sets.TheVariants.{Cut}
use Rattle.path_order.specs.declared.choice.Order.{Order}
use Rattle.path_order.specs.Orders.{ordered}
use Rattle.path_table.specs.Rows.{Counted, row_paths}
use Rattle.dump_read.specs.declared.taking.Taken.{Taken}
use Rattle.relationships.specs.declared.given.Given.{Given}
use Rattle.as_rel.specs.declared.givens.KnownLines.{KnownLines}
use Rattle.relationships.specs.Givens.{returns}
use Rattle.relationships.specs.Selection.{KeepsFrom}
use Rattle.as_rel.specs.declared.line.RelLine.{RelLine}
use Rattle.tor_words.specs.declared.settings.Settings.{Settings}
use Rattle.tor_words.specs.declared.grade_settings.GradeSettings.{GradeSettings}
use Rattle.tor_words.specs.declared.task.Made.TheVariants.{Serial}
use Rattle.tor_words.specs.Given.{dumps_in, settings_given}
use Rattle.tor_words.specs.GradeGiven.{grade_settings_given}
use Rattle.run_base.specs.Programs.{Makes}
use Rattle.torgrade_run.specs.GradeText.{is_free, grades_of, grades_text, totals_of}
use Rattle.torgrade_run.specs.Grading.{Basis, GivesGrading, IsGrading}
use Rattle.tor_output.specs.Grading.{GradesExactly}
use Rattle.tor_output.specs.Output.{givens_for, made_by, paths_taken}
use Rattle.tor_output.specs.Seen.{ComesTo, Reads}

-- the text begins with the lines of these paths and their totals, and there exactly the kept ones are free, and none is unknown.
-- A path is kept exactly if some orientation that agrees with the givens serves it together with those kept before it, in the order in which
-- they are taken
pub record IsGradedAsKept (givens : List Given) (order : Order) (rows : List Counted) (text : List ℕ) : Type 0 where
  pub rel : List RelLine
  pub cone : List ℕ
  pub is_text : text ≡ grades_text rel rows ++ cone
  pub keeps : List Bool
  pub kept : KeepsFrom (returns (row_paths (ordered order rows)) givens) (row_paths (ordered order rows)) keeps
  pub free : map is_free (grades_of rel (ordered order rows)) ≡ keeps
  pub known : (totals_of (grades_of rel rows)).unknown ≡ 0

-- later files have under the names of dumps what these have
abbrev pub KeepDumps : List (List ℕ) → (files later : Files) → Type 0
KeepDumps dumps files later = (name : List ℕ) → Contains dumps name → later name ≡ files name

-- so grades each grading of the same dumps, later on and under whatever names, whose file of known relationships is a text under which
-- exactly the kept paths are free, as a run with `--serial1` that cuts sets has written it
abbrev pub SelfGradingLaw : Type 0
SelfGradingLaw =
    (words : List (List ℕ)) (settings : Settings) (files : Files) (known : Option KnownLines) (taken : Taken) (rel : List ℕ) →
    settings_given words ≡ Some settings → made_by settings.job ≡ Some Serial → settings.sets ≡ Cut →
    ComesTo settings files (Reads known taken) →
    GradesExactly (givens_for settings known taken) (row_paths (paths_taken settings taken)) rel →
    (grade_words : List (List ℕ)) (grading : GradeSettings) (later : Files) (text : List ℕ) →
    grade_settings_given grade_words ≡ Some grading → later grading.rel ≡ Some rel →
    map later grading.dumps ≡ map files (dumps_in settings) → (basis : Basis) (note : List ℕ) →
    GivesGrading grading (Some later) (Makes basis) → IsGrading grading basis text note →
    IsGradedAsKept (givens_for settings known taken) settings.order taken.table.rows text
