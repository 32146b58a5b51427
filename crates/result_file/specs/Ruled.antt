-- What the rules 0 to 10 say of a result file.
use Rattle.std.specs.Prelude.{◌≡◌, ◌⊎◌, ℕ, List, Option, None, IfSome}
use Rattle.tor_io.specs.Contents.{Files}
use Rattle.result_text.specs.declared.file.ResultFile.{ResultFile}
use Rattle.result_text.specs.Grammar.{IsTextOf, IsBadLine}
use Rattle.result_rules.specs.declared.verdict.Verdict.{Verdict}
use Rattle.result_rules.specs.declared.verdict.Verdict.TheVariants.{Yes, No}
use Rattle.result_rules.specs.File.{HasFewLines}
use Rattle.result_rules.specs.Rules.{Accepts, IsRefused}
use Rattle.run_base.specs.declared.whole_file.Unread.{Unread}
use Rattle.run_base.specs.declared.whole_file.Unread.TheVariants as unread
use Rattle.run_base.specs.Programs.{HasOctets}
use Rattle.run_base.specs.WholeFile.{IsLongFile}
use Rattle.result_file.specs.declared.ruling.Ruling.{Ruling}
use Rattle.result_file.specs.declared.ruling.Ruling.TheVariants as ruling
use Rattle.result_file.specs.Limits.{max_result}

-- ---- the octets alone

-- they are the text of this result, which meets the rules 1 to 10
pub record IsAccepted (file : ResultFile) (bytes : List ℕ) : Type 0 where
  pub text : IsTextOf file bytes
  pub rules : Accepts file

-- rule 0 says that they are a text. The least rule that is broken, and its first line
abbrev pub BreaksRule : List ℕ → Verdict → Type 0
BreaksRule bytes Yes = ⊥
BreaksRule bytes (No line rule) =
    ((rule ≡ 0) × IsBadLine line bytes) ⊎ ((file : ResultFile) × IsTextOf file bytes × IsRefused file line rule)

-- the ruling is that of the rules 1 to 10 on this result
abbrev pub IsRulingOf : ResultFile → Ruling → Type 0
IsRulingOf file (ruling.Broken line rule) = IsRefused file line rule
IsRulingOf file (ruling.Met met) = (met ≡ file) × Accepts file

-- the ruling is that of the rules 0 to 10
abbrev pub IsRuling : List ℕ → Ruling → Type 0
IsRuling bytes (ruling.Broken line rule) = BreaksRule bytes (No line rule)
IsRuling bytes (ruling.Met file) = IsAccepted file bytes

-- the result that meets them has few lines
abbrev pub IsOfFewLines : Ruling → Type 0
IsOfFewLines (ruling.Broken line rule) = Unit {0}
IsOfFewLines (ruling.Met file) = HasFewLines file

-- ---- the file of a name

-- the ruling is that on its octets
abbrev pub IsRulingIn : Option Files → List ℕ → Ruling → Type 0
IsRulingIn known name r = (bytes : List ℕ) × HasOctets known name max_result bytes × IsRuling bytes r

-- there is no ruling on it for this: over a steady shelf it isn't there, or it has too many octets
abbrev pub IsUnruled : Option Files → Type 0 → List ℕ → Unread → Type 0
IsUnruled known steady name unread.Failed = steady → IfSome known (λ files. files name ≡ None)
IsUnruled known steady name unread.TooLong = IfSome known (λ files. IsLongFile max_result (files name))
IsUnruled known steady name unread.NoMemory = Unit {0}
