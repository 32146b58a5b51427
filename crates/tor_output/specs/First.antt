-- The file that a run reads whole before any dump, where the words name one: known relationships, or a result, which may be taken up.
use Rattle.std.specs.Prelude.{◌≡◌, ◌≤◌, ℕ, List, length, Option, Some, None, Err, ⊤}
use Rattle.tor_io.specs.Contents.{Files}
use Rattle.as_rel.specs.declared.givens.KnownLines.{KnownLines}
use Rattle.relationships.specs.Givens.{NameTwo, NameOnce}
use Rattle.as_rel.specs.Givens.{SaysKnown}
use Rattle.as_rel.specs.Serial.{rel_in}
use Rattle.result_text.specs.declared.file.ResultFile.{ResultFile}
use Rattle.result_text.specs.Grammar.{IsTextOf, IsBadLine}
use Rattle.result_rules.specs.declared.verdict.Verdict.TheVariants.{No}
use Rattle.tor_words.specs.declared.job.Job.{Job}
use Rattle.tor_words.specs.declared.job.Job.TheVariants as job
use Rattle.tor_words.specs.declared.settings.Settings.{Settings}
use Rattle.tor_words.specs.Given.{settings_given}
use Rattle.run_base.specs.declared.notes.FirstFile.{FirstFile}
use Rattle.run_base.specs.declared.notes.FirstFile.TheVariants as first
use Rattle.run_base.specs.WholeFile.{IsFile, IsLongFile}
use Rattle.result_file.specs.Ruled.{IsAccepted, BreaksRule}
use Rattle.result_file.specs.Limits.{max_result}
use Rattle.tor_output.specs.Knowing.{said_givens}
use Rattle.tor_output.specs.Limits.{max_given_octets}

-- what is read first
pub data First : Type 0 where
  Nothing : First
  -- the file of this name, which says what is known
  Givens : List ℕ → First
  -- the file of this name, which holds a result
  Result : List ℕ → First
  -- the file of this name, which holds the earlier result that is taken up
  Earlier : List ℕ → First

abbrev pub first_given : Option (List ℕ) → First
first_given None = Nothing
first_given (Some name) = Givens name

-- by the job: with `--given` the file of known relationships, for `--migrate` the result, and with `--resume` the earlier one
abbrev pub first_of : Job → First
first_of (job.Count counted dumps) = Nothing
first_of (job.Infer made given dumps) = first_given given
first_of (job.Sample seed) = Nothing
first_of (job.Migrate name) = Result name
first_of (job.Resume earlier dumps) = Earlier earlier

-- which file the settings name
abbrev pub first_in : Settings → First
first_in settings = first_of settings.job

-- what notes call it
abbrev pub first_kind : First → Option FirstFile
first_kind Nothing = None
first_kind (Givens name) = Some first.Given
first_kind (Result name) = Some first.Result
first_kind (Earlier name) = Some first.Result

-- the words name such a file
abbrev pub ReadsFirst : List (List ℕ) → FirstFile → Type 0
ReadsFirst words file = (settings : Settings) × (settings_given words ≡ Some settings) × (first_kind (first_in settings) ≡ Some file)

-- it holds the earlier result, which is to be taken up
abbrev pub IsTakenUp : First → Type 0
IsTakenUp Nothing = ⊥
IsTakenUp (Givens name) = ⊥
IsTakenUp (Result name) = ⊥
IsTakenUp (Earlier name) = ⊤

-- the words ask to take one up
abbrev pub AsksToResume : List (List ℕ) → Type 0
AsksToResume words = (settings : Settings) × (settings_given words ≡ Some settings) × IsTakenUp (first_in settings)

-- there is such a file, and of the most octets that it may have and of its name this holds
abbrev pub OfFirst : First → (ℕ → List ℕ → Type 0) → Type 0
OfFirst Nothing P = ⊥
OfFirst (Givens name) P = P max_given_octets name
OfFirst (Result name) P = P max_result name
OfFirst (Earlier name) P = P max_result name

-- ---- what it gives

-- this is known: what the file says; and nothing where no such file is named
abbrev pub AreGivens : First → Files → Option KnownLines → Type 0
AreGivens Nothing files None = ⊤
AreGivens Nothing files (Some givens) = ⊥
AreGivens (Givens name) files None = ⊥
AreGivens (Givens name) files (Some givens) = (bytes : List ℕ) × IsFile max_given_octets files name bytes × SaysKnown bytes givens
AreGivens (Result name) files known = ⊥
AreGivens (Earlier name) files known = ⊥

-- the file holds the text of this result
abbrev pub HoldsResult : First → Files → ResultFile → Type 0
HoldsResult Nothing files file = ⊥
HoldsResult (Givens name) files file = ⊥
HoldsResult (Result name) files file = (bytes : List ℕ) × IsFile max_result files name bytes × IsTextOf file bytes
HoldsResult (Earlier name) files file = ⊥

-- the file holds the text of this result, which meets all rules on results alone, and is taken up
abbrev pub TakesUp : First → Files → ResultFile → Type 0
TakesUp Nothing files file = ⊥
TakesUp (Givens name) files file = ⊥
TakesUp (Result name) files file = ⊥
TakesUp (Earlier name) files file = (bytes : List ℕ) × IsFile max_result files name bytes × IsAccepted file bytes

-- this is its first bad line; of a result that is to be taken up a bad line is one that breaks rule 0
abbrev pub HasBadLine : First → Files → ℕ → Type 0
HasBadLine Nothing files line = ⊥
HasBadLine (Givens name) files line = (bytes : List ℕ) × IsFile max_given_octets files name bytes × (rel_in bytes ≡ Err line)
HasBadLine (Result name) files line = (bytes : List ℕ) × IsFile max_result files name bytes × IsBadLine line bytes
HasBadLine (Earlier name) files line = ⊥

-- it was to be taken up, but it breaks rules: this is the least of them, and its first line
abbrev pub HasBrokenRule : First → Files → (line rule : ℕ) → Type 0
HasBrokenRule Nothing files line rule = ⊥
HasBrokenRule (Givens name) files line rule = ⊥
HasBrokenRule (Result name) files line rule = ⊥
HasBrokenRule (Earlier name) files line rule = (bytes : List ℕ) × IsFile max_result files name bytes × BreaksRule bytes (No line rule)

-- why it gives nothing
pub data FirstEnd : Type 0 where
  -- it isn't there
  NoFile : FirstEnd
  -- it has more octets than may be
  TooLong : FirstEnd
  -- this is its first bad line
  BadLine : ℕ → FirstEnd
  -- this line is the first that breaks this rule, the least that is broken
  Broken : (line rule : ℕ) → FirstEnd

-- it gives nothing for this
abbrev pub EndsAtFirst : First → Files → FirstEnd → Type 0
EndsAtFirst f files NoFile = OfFirst f (λ most name. files name ≡ None)
EndsAtFirst f files TooLong = OfFirst f (λ most name. IsLongFile most (files name))
EndsAtFirst f files (BadLine line) = HasBadLine f files line
EndsAtFirst f files (Broken line rule) = HasBrokenRule f files line rule

-- ---- what it gives whatever the files hold

-- some octets, few enough, say that this is known
abbrev pub AreSomeGivens : First → Option KnownLines → Type 0
AreSomeGivens Nothing None = ⊤
AreSomeGivens Nothing (Some givens) = ⊥
AreSomeGivens (Givens name) None = ⊥
AreSomeGivens (Givens name) (Some givens) = (bytes : List ℕ) × (length bytes ≤ max_given_octets) × SaysKnown bytes givens
AreSomeGivens (Result name) known = ⊥
AreSomeGivens (Earlier name) known = ⊥

-- what is said, if anything is, names two ASes each time, and no two of them twice
abbrev pub AreSound : Option KnownLines → Type 0
AreSound said = NameTwo (said_givens said) × NameOnce (said_givens said)

-- some octets, few enough, are the text of this result
abbrev pub IsSomeResult : First → ResultFile → Type 0
IsSomeResult Nothing file = ⊥
IsSomeResult (Givens name) file = ⊥
IsSomeResult (Result name) file = (bytes : List ℕ) × (length bytes ≤ max_result) × IsTextOf file bytes
IsSomeResult (Earlier name) file = ⊥

-- some octets, few enough, are the text of this result, which meets all rules
abbrev pub TakesUpSome : First → ResultFile → Type 0
TakesUpSome Nothing file = ⊥
TakesUpSome (Givens name) file = ⊥
TakesUpSome (Result name) file = ⊥
TakesUpSome (Earlier name) file = (bytes : List ℕ) × (length bytes ≤ max_result) × IsAccepted file bytes
