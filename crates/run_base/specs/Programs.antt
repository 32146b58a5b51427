-- What a program is to its run: the settings that words give, the files that these name, what the files come to, and what is written of it.
use Rattle.std.specs.Prelude.{◌≡◌, ◌≤◌, ◌-◌, ℕ, List, length, take, Option, None, Some, IfSome, IsOk, Ok, Err, option_map}
use Rattle.tor_io.specs.Contents.{Files}
use Rattle.dump_read.specs.declared.wanted.Wanted.{Wanted}
use Rattle.dump_read.specs.declared.taking.Taken.{Taken}
use Rattle.dump_read.specs.Seen.{DumpsEnd, Absent, Malformed, Limit}
use Rattle.run_base.specs.declared.notes.FirstFile.{FirstFile}
use Rattle.run_base.specs.declared.status.Status.{Status}
use Rattle.run_base.specs.declared.status.Status.TheVariants as status
use Rattle.run_base.specs.Opening.{Named, FilesEnd, EndedAt}
use Rattle.run_base.specs.Reading.{seen_from, IsOfSomeDumps}
use Rattle.run_base.specs.WholeFile.{IsLongFile}

-- ---- the files that words name

-- a file that is read whole before any dump: its name, the most octets that it may have, and what notes call it
pub record First : Type 0 where
  pub name : List ℕ
  pub most : ℕ
  pub kind : FirstFile

-- such a file, or none, and dumps
pub record Reads : Type 0 where
  pub first : Option First
  pub dumps : List (List ℕ)

-- their names
abbrev pub named_in : Reads → Named
named_in reads = record { first = option_map (λ first. first.name) reads.first; dumps = reads.dumps }

-- ---- what they come to

-- what a program makes of its files, or why it makes nothing
pub data Outcome (Made : Type 0) : Type 0 where
  -- this is made of all of them
  Makes : Made → Outcome Made
  -- the file that is read first isn't there
  NoFile : Outcome Made
  -- it has more octets than may be
  TooLong : Outcome Made
  -- this is its first bad line
  BadLine : ℕ → Outcome Made
  -- it breaks rules: this is the least of them, and its first line
  Breaks : (line rule : ℕ) → Outcome Made
  -- it is good, and what is asked of it isn't there, as this note says
  Lacks : List ℕ → Outcome Made
  -- it is good, and the dumps have this end
  Ends : DumpsEnd → Outcome Made

-- ---- the program

-- the settings that words give; the files that these name, unless what is read stands in no file; what the settings and the files, as far
-- as these are known, come to; what has shown itself before the file of a number, from 1 the dumps; and of what is made the status of a run
-- that has written it, the last file that it takes, and a text with its note
pub record Program (Settings Made : Type 0) : Type 1 where
  pub given : List (List ℕ) → Option Settings
  pub reads : Settings → Option Reads
  pub Gives : Settings → Option Files → Outcome Made → Type 0
  pub Before : Settings → Option Files → ℕ → Type 0
  pub status : Made → Status
  pub end : Made → FilesEnd
  pub IsText : Settings → Made → (text note : List ℕ) → Type 0

-- what the words and the files come to
abbrev pub Gives : {S M : Type 0} → Program S M → List (List ℕ) → Option Files → Outcome M → Type 0
Gives {S = S} program words known x = (settings : S) × (program.given words ≡ Some settings) × program.Gives settings known x

-- words and files come to one outcome at most
abbrev pub OneOutcome : {S M : Type 0} → Program S M → Type 0
OneOutcome {S = S} {M = M} program =
    (settings : S) (files : Files) (x y : Outcome M) → program.Gives settings (Some files) x → program.Gives settings (Some files) y → x ≡ y

-- ---- the status of an outcome, and the last file that it takes

abbrev pub status_of_end : DumpsEnd → Status
status_of_end (Absent dump) = status.ReadFault
status_of_end (Malformed place fault) = status.Malformed
status_of_end (Limit kind dump) = status.Limit

abbrev pub status_of : {M : Type 0} → (M → Status) → Outcome M → Status
status_of of_made (Makes made) = of_made made
status_of of_made NoFile = status.ReadFault
status_of of_made TooLong = status.Limit
status_of of_made (BadLine line) = status.Malformed
status_of of_made (Breaks line rule) = status.No
status_of of_made (Lacks note) = status.No
status_of of_made (Ends end) = status_of_end end

-- the dump at which this end is
abbrev pub dump_of : DumpsEnd → ℕ
dump_of (Absent dump) = dump
dump_of (Malformed place fault) = place.dump
dump_of (Limit kind dump) = dump

abbrev pub end_of : {M : Type 0} → (M → FilesEnd) → Outcome M → FilesEnd
end_of of_made (Makes made) = of_made made
end_of of_made NoFile = EndedAt 0
end_of of_made TooLong = EndedAt 0
end_of of_made (BadLine line) = EndedAt 0
end_of of_made (Breaks line rule) = EndedAt 0
end_of of_made (Lacks note) = EndedAt 0
end_of of_made (Ends end) = EndedAt (dump_of end)

-- ---- files, as far as they are known

-- the file of this name has these octets, few enough; where nothing is known of the files, some octets stand in its place
pub record HasOctets (known : Option Files) (name : List ℕ) (most : ℕ) (bytes : List ℕ) : Type 0 where
  pub there : IfSome known (λ files. files name ≡ Some bytes)
  pub short : length bytes ≤ most

-- it isn't there
abbrev pub IsAbsent : Option Files → List ℕ → Type 0
IsAbsent known name = IfSome known (λ files. files name ≡ None)

-- it has more octets than may be
abbrev pub IsTooLong : Option Files → List ℕ → ℕ → Type 0
IsTooLong known name most = IfSome known (λ files. IsLongFile most (files name))

-- the dumps give this on top of that; where nothing is known of the files, some octets in their place do
abbrev pub DumpsGive : Option Files → Wanted → List (List ℕ) → (old new : Taken) → Type 0
DumpsGive None wanted dumps old new = IsOfSomeDumps wanted (length dumps) old new
DumpsGive (Some files) wanted dumps old new = seen_from wanted 1 old dumps files ≡ Ok new

-- they have this end
abbrev pub DumpsEndAt : Option Files → Wanted → List (List ℕ) → Taken → DumpsEnd → Type 0
DumpsEndAt known wanted dumps old end = IfSome known (λ files. seen_from wanted 1 old dumps files ≡ Err end)

-- those before the dump of this number have no end
abbrev pub ReadBefore : Option Files → Wanted → List (List ℕ) → Taken → ℕ → Type 0
ReadBefore known wanted dumps old dump = IfSome known (λ files. IsOk (seen_from wanted 1 old (take (dump - 1) dumps) files))
