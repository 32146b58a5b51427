-- What a check says of a result that was made of dumps, and that its summary is one.
use Rattle.std.specs.Prelude.{◌≡◌, ◌≤◌, ◌⊎◌, ◌↔◌, ℕ, Bool, true, false, List, [], length, map, Option, Some}
use Rattle.std.specs.List.Sorted.{IsPermutation}
use Rattle.path_order.specs.declared.choice.Order.TheVariants.{Seen}
use Rattle.tor_io.specs.Contents.{Files}
use Rattle.relationships.specs.declared.given.Given.{Given}
use Rattle.dump_read.specs.declared.taking.Taken.{Taken}
use Rattle.as_rel.specs.declared.givens.KnownLines.{KnownLines}
use Rattle.result_text.specs.declared.file.ResultFile.{ResultFile}
use Rattle.result_text.specs.Grammar.{IsTextOf}
use Rattle.result_rules.specs.declared.verdict.Verdict.{Verdict}
use Rattle.result_rules.specs.declared.verdict.Verdict.TheVariants.{Yes}
use Rattle.tor_words.specs.declared.task.Made.TheVariants as made
use Rattle.tor_words.specs.declared.settings.Settings.{Settings}
use Rattle.tor_words.specs.declared.check_settings.CheckSettings.{CheckSettings}
use Rattle.tor_words.specs.CheckGiven.{check_settings_given}
use Rattle.tor_words.specs.Given.{dumps_in, settings_given}
use Rattle.run_base.specs.Programs.{Outcome}
use Rattle.torcheck_run.specs.declared.judging.Judged.{Judged}
use Rattle.torcheck_run.specs.Checking.{GivesOutcome}
use Rattle.torcheck_run.specs.Judging.{CanBeJudged, IsVerdict}
use Rattle.result_file.specs.Limits.{max_result}
use Rattle.tor_output.specs.First.{Earlier, TakesUp}
use Rattle.tor_output.specs.Output.{Faithful, IsOutput, made_by, migrated}
use Rattle.tor_output.specs.Written.{Written}
use Rattle.tor_output.specs.Seen.{ComesTo, Reads}
use Rattle.tor_output.specs.Summary.{summary}
use Rattle.run_laws.specs.SelfGrading.{KeepDumps}

-- the text of a result is judged yes, alone and beside these dumps, as they stand or in any order, and no other way. If it isn't too long,
-- a check of it, alone or beside these dumps, can judge it, and a later run can take it up
pub record IsAgreedOn (any_order : Bool) (dumps : List (List ℕ)) (files : Files) (text : List ℕ) : Type 0 where
  pub alone : IsVerdict any_order text [] files Yes
  pub beside : IsVerdict any_order text dumps files Yes
  pub no_other : (named : List (List ℕ)) (verdict : Verdict) → (named ≡ []) ⊎ (named ≡ dumps) →
      IsVerdict any_order text named files verdict → verdict ≡ Yes
  pub judged : (words : List (List ℕ)) (check : CheckSettings) → check_settings_given words ≡ Some check →
      files check.result ≡ Some text → (check.dumps ≡ []) ⊎ (check.dumps ≡ dumps) → length text ≤ max_result → CanBeJudged words files
  pub takes_up : (name : List ℕ) (later : Files) → later name ≡ Some text → length text ≤ max_result →
      (file : ResultFile) × TakesUp (Earlier name) later file

-- so it is beside the dumps that the result was made of, later on and under whatever names, whether relationships are known or not; where
-- the paths were taken as they were seen
abbrev pub AgreementLaw : Type 0
AgreementLaw =
    (words : List (List ℕ)) (settings : Settings) (files : Files) (known : Option KnownLines) (taken : Taken) (output : Written) →
    settings_given words ≡ Some settings → settings.order ≡ Seen → made_by settings.job ≡ Some made.Result →
    ComesTo settings files (Reads known taken) → IsOutput settings (Reads known taken) output → (names : List (List ℕ)) (later : Files) →
    map later names ≡ map files (dumps_in settings) → IsAgreedOn false names later output.text

-- and in whatever order they were taken, beside these dumps in any order
abbrev pub AnyOrderAgreementLaw : Type 0
AnyOrderAgreementLaw =
    (words : List (List ℕ)) (settings : Settings) (files : Files) (known : Option KnownLines) (taken : Taken) (output : Written) →
    settings_given words ≡ Some settings → made_by settings.job ≡ Some made.Result → ComesTo settings files (Reads known taken) →
    IsOutput settings (Reads known taken) output → (names : List (List ℕ)) (later : Files) →
    IsPermutation (map files (dumps_in settings)) (map later names) → IsAgreedOn true names later output.text

-- all results that are faithful to what is known and to what dumps gave have the same summary
abbrev pub OneSummaryLaw : Type 0
OneSummaryLaw =
    (settings : Settings) (known : Option KnownLines) (taken : Taken) (file file' : ResultFile) → Faithful settings known taken file →
    Faithful settings known taken file' → summary file ≡ summary file'

-- a text of version 2 stays as it is. And what a check comes to is the same with the text of a result as with its text of version 2 in its
-- place, beside the same dumps
abbrev pub MigrateLaw : Type 0
MigrateLaw =
    (file : ResultFile) (before after : List ℕ) → IsTextOf file before → IsTextOf (migrated file) after →
    ((givens : List Given) → file.givens ≡ Some givens → after ≡ before) ×
    ((check : CheckSettings) (files later : Files) → files check.result ≡ Some before → later check.result ≡ Some after →
    KeepDumps check.dumps files later → (outcome : Outcome Judged) →
    GivesOutcome check (Some files) outcome ↔ GivesOutcome check (Some later) outcome)
