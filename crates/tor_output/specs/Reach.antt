-- How far a run reads the file or the dump at which it stops.
use Rattle.std.specs.Prelude.{◌≡◌, ◌≤◌, ◌⊎◌, ℕ, List, length, Option, ⊤}
use Rattle.std.specs.Io.KnownBytes.{IsAtEnd}
use Rattle.tor_io.specs.Contents.{Files}
use Rattle.dump_read.specs.declared.error.DumpError.{DumpError}
use Rattle.dump_read.specs.declared.error.DumpError.TheVariants as error
use Rattle.dump_read.specs.declared.error.LimitKind.TheVariants.{Bytes, Paths}
use Rattle.dump_read.specs.Reach.{StopsBounded, LeavesRestOfDump}
use Rattle.dump_read.specs.Refusals.{IsOfDump}
use Rattle.tor_words.specs.declared.settings.Settings.{Settings}
use Rattle.tor_words.specs.Given.{dumps_in}
use Rattle.run_base.specs.declared.answer.Refusal.{Refusal}
use Rattle.run_base.specs.declared.answer.Refusal.TheVariants as refusal
use Rattle.run_base.specs.declared.whole_file.Unread.{Unread}
use Rattle.run_base.specs.declared.whole_file.Unread.TheVariants as unread
use Rattle.run_base.specs.Reading.{name_of_dump}
use Rattle.run_base.specs.WholeFile.{LeavesRest, LeavesOnly}
use Rattle.tor_output.specs.declared.unwritten.Unwritten.{Unwritten}
use Rattle.tor_output.specs.declared.unwritten.Unwritten.TheVariants as unwritten
use Rattle.tor_output.specs.First.{First, OfFirst, IsTakenUp, first_in}
use Rattle.tor_output.specs.Sampling.{BySample, sample_of}

-- ---- the file that is read first

-- of one that is too long all behind the octet that shows it is left
abbrev pub LeavesRestOfFirst : First → Option Files → Option (List ℕ) → Type 0
LeavesRestOfFirst f known left = OfFirst f (λ most name. LeavesRest most name known left)

-- nothing is left unread, or a rest of it, and no more was read than shows that it is too long
abbrev pub LeavesOnlyFirst : First → Option Files → Option (List ℕ) → Type 0
LeavesOnlyFirst f known left = OfFirst f (λ most name. LeavesOnly most name known left)

-- so it is where it was not read for this
abbrev pub IsUnreadInReach : First → Option Files → Option (List ℕ) → Unread → Type 0
IsUnreadInReach f known left unread.Failed = LeavesOnlyFirst f known left
IsUnreadInReach f known left unread.TooLong = LeavesRestOfFirst f known left
IsUnreadInReach f known left unread.NoMemory = ⊤

-- there is no text for this, since it gives nothing, and so far it was read: one with a bad line or a broken rule whole
abbrev pub IsFirstInReach : First → Option Files → Option (List ℕ) → Unwritten → Type 0
IsFirstInReach f known left (unwritten.First file why) = IsUnreadInReach f known left why
IsFirstInReach f known left (unwritten.BadLine file line) = IsAtEnd left
IsFirstInReach f known left (unwritten.Broken line rule) = IsAtEnd left
IsFirstInReach f known left (unwritten.Refused why) = ⊤

-- ---- dumps

-- the number is that of one of these dumps, of which no octet behind the octet 2 ^ 40 + 12 was read, or it was not opened; and if reading
-- stopped at the limit on bytes, the header that shows it is the last thing that was read of it
abbrev pub IsDumpInReach : List (List ℕ) → Option Files → Option (List ℕ) → ℕ → DumpError → Type 0
IsDumpInReach dumps known left dump e =
    (1 ≤ dump) × (dump ≤ length dumps) × StopsBounded e (name_of_dump dumps dump) known left ×
    (e ≡ error.Limit Bytes → LeavesRestOfDump (name_of_dump dumps dump) known left)

-- so it is of a run over files; of a sample nothing is said, since it is no file
abbrev pub IsInReach : Settings → Option Files → Option (List ℕ) → ℕ → DumpError → Type 0
IsInReach settings known left dump e = BySample (sample_of settings.job) ⊤ (IsDumpInReach (dumps_in settings) known left dump e)

-- the same of dumps, where there is no text since the reading of them stopped; in a fault the place names the dump
abbrev pub StopsDumpsInReach : List (List ℕ) → Option Files → Option (List ℕ) → Refusal → Type 0
StopsDumpsInReach dumps known left (refusal.Words w) = ⊤
StopsDumpsInReach dumps known left (refusal.Dumps stopped) =
    IsOfDump stopped.dump stopped.error × IsDumpInReach dumps known left stopped.dump stopped.error
StopsDumpsInReach dumps known left refusal.NoMemory = ⊤

-- a result that is taken up has more paths than may be: nothing is left unread
abbrev pub IsPastLimit : First → Option (List ℕ) → ℕ → DumpError → Type 0
IsPastLimit f left dump e = IsTakenUp f × (dump ≡ 0) × (e ≡ error.Limit Paths) × IsAtEnd left

abbrev pub StopsInReach : Settings → Option Files → Option (List ℕ) → Refusal → Type 0
StopsInReach settings known left (refusal.Words w) = ⊤
StopsInReach settings known left (refusal.Dumps stopped) = IsPastLimit (first_in settings) left stopped.dump stopped.error
    ⊎ BySample (sample_of settings.job) ⊤ (StopsDumpsInReach (dumps_in settings) known left (refusal.Dumps stopped))
StopsInReach settings known left refusal.NoMemory = ⊤

-- ---- either

-- with these settings there is no text for this, and so far it was read: a file with a bad line or a broken rule whole
abbrev pub IsUnwrittenInReach : Settings → Option Files → Option (List ℕ) → Unwritten → Type 0
IsUnwrittenInReach settings known left (unwritten.First file why) = IsUnreadInReach (first_in settings) known left why
IsUnwrittenInReach settings known left (unwritten.BadLine file line) = IsAtEnd left
IsUnwrittenInReach settings known left (unwritten.Broken line rule) = IsAtEnd left
IsUnwrittenInReach settings known left (unwritten.Refused why) = StopsInReach settings known left why
