-- What a verdict means, beside files that are known.
use Rattle.dump_read.specs.Wanted.{all_wanted}
use Rattle.std.specs.Prelude.{◌≡◌, ◌<◌, ◌⊎◌, ℕ, Bool, List, [], ◌∷◌, length, Some, Result, Ok, IsOk}
use Rattle.tor_io.specs.Contents.{Files}
use Rattle.result_text.specs.declared.file.ResultFile.{ResultFile}
use Rattle.result_text.specs.Grammar.{IsTextOf}
use Rattle.result_rules.specs.declared.verdict.Verdict.{Verdict}
use Rattle.result_rules.specs.declared.verdict.Verdict.TheVariants.{Yes}
use Rattle.result_rules.specs.Valid.{Valid}
use Rattle.dump_read.specs.declared.taking.Taken.{Taken}
use Rattle.dump_read.specs.Seen.{DumpsEnd}
use Rattle.tor_words.specs.declared.check_settings.CheckSettings.{CheckSettings}
use Rattle.tor_words.specs.CheckGiven.{check_settings_given}
use Rattle.run_base.specs.Reading.{nothing, seen_from}
use Rattle.result_file.specs.Limits.{max_result}
use Rattle.result_file.specs.Ruled.{BreaksRule, IsAccepted}
use Rattle.tor_arena.specs.Limits.{max_paths}
use Rattle.run_base.specs.WholeFile.{IsFile}
use Rattle.torcheck_run.specs.Checking.{JudgesTaken}

-- ---- rule 11, agreement with dumps

-- what the dumps give, read with the sets of the result
abbrev pub seen_for : ResultFile → List (List ℕ) → Files → Result Taken DumpsEnd
seen_for file dumps files = seen_from (all_wanted file.sets) 1 (nothing max_paths) dumps files

-- yes where no dump is named. Else the dumps give paths and counts, and the verdict is on the agreement with these
abbrev pub JudgesByDumps : (any_order : Bool) → ResultFile → List (List ℕ) → Files → Verdict → Type 0
JudgesByDumps any_order file [] files verdict = verdict ≡ Yes
JudgesByDumps any_order file (dump ∷ dumps) files verdict =
    (taken : Taken) × (seen_for file (dump ∷ dumps) files ≡ Ok taken) × JudgesTaken any_order file taken verdict

-- a rule of 0 to 10 is broken; or all are met, and rule 11 decides
abbrev pub IsVerdict : (any_order : Bool) → List ℕ → List (List ℕ) → Files → Verdict → Type 0
IsVerdict any_order bytes dumps files verdict =
    BreaksRule bytes verdict ⊎ ((file : ResultFile) × IsAccepted file bytes × JudgesByDumps any_order file dumps files verdict)

-- a result file has one verdict beside the same dumps: yes, or one line and one rule
abbrev pub OneFileVerdictLaw : Type 0
OneFileVerdictLaw =
    (any_order : Bool) (bytes : List ℕ) (dumps : List (List ℕ)) (files : Files) (verdict other : Verdict) →
    IsVerdict any_order bytes dumps files verdict → IsVerdict any_order bytes dumps files other → verdict ≡ other

-- the result file is there with these octets, and they are few enough
abbrev pub IsResult : CheckSettings → Files → List ℕ → Type 0
IsResult settings files bytes = IsFile max_result files settings.result bytes

-- ---- what follows

-- The result file is the text of a valid result, and where dumps are named, its counts and its paths with their times are exactly those
-- that the dumps give, with `--any-order` in whatever order
pub record IsVouched (words : List (List ℕ)) (files : Files) : Type 0 where
  pub settings : CheckSettings
  pub given : check_settings_given words ≡ Some settings
  pub bytes : List ℕ
  pub there : files settings.result ≡ Some bytes
  pub file : ResultFile
  pub text : IsTextOf file bytes
  pub valid : Valid file
  pub agrees : 0 < length settings.dumps →
      (taken : Taken) × (seen_for file settings.dumps files ≡ Ok taken) × JudgesTaken settings.any_order file taken Yes

-- Nothing stands in the way of a verdict: the result file is there and short enough, and a rule of 0 to 10 is broken, or no
-- dump is named, or the dumps give paths
pub record CanBeJudged (words : List (List ℕ)) (files : Files) : Type 0 where
  pub settings : CheckSettings
  pub given : check_settings_given words ≡ Some settings
  pub bytes : List ℕ
  pub result : IsResult settings files bytes
  pub judged : ((file : ResultFile) → IsAccepted file bytes → ⊥) ⊎
      ((settings.dumps ≡ []) ⊎ ((file : ResultFile) → IsTextOf file bytes →
      IsOk (seen_for file settings.dumps files)))
