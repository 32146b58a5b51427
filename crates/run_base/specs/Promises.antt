-- What a run of a program promises, whatever the program is: how it ended, and what it has left in the objects that it was given.
use Rattle.std.specs.Prelude.{◌≡◌, ◌≤◌, ◌⊎◌, ℕ, zero, suc, List, Option, None, Some, IfSome, IsSomeAnd, option_map, ⊤}
use Rattle.std.specs.Io.KnownBytes.{append_known, IsAtEnd}
use Rattle.tor_io.specs.Counts.{IsQuiet}
use Rattle.tor_io.specs.Contents.{Files, GainsPrefix}
use Rattle.tor_io.specs.declared.shelf.Shelf as shelf
use Rattle.tor_io.specs.declared.sink.Sink as sink
use Rattle.dump_read.specs.declared.error.DumpError.TheVariants as error
use Rattle.dump_read.specs.Seen.{DumpsEnd, Absent, Malformed, Limit}
use Rattle.tor_words.specs.Refused.{HasUsageLine}
use Rattle.run_base.specs.declared.status.Status.{Status}
use Rattle.run_base.specs.declared.status.Status.TheVariants as status
use Rattle.run_base.specs.Answers.{IsNoted}
use Rattle.run_base.specs.Frames.{RunLeavesShelf, RunLeavesOut}
use Rattle.run_base.specs.Notes.{bad_line_note, broken_note, limit_note, malformed_note, plain_note, read_fault_note, too_long_note}
use Rattle.run_base.specs.Opening.{FilesEnd, EndedAt, IsNumber, OpensInOrder}
use Rattle.run_base.specs.Programs.{First, Reads, Outcome, Makes, NoFile, TooLong, BadLine, Breaks, Lacks, Ends, Program}
use Rattle.run_base.specs.Programs.{Gives, end_of, named_in, status_of}
use Rattle.run_base.specs.Reach.{IsDumpInReach}
use Rattle.run_base.specs.WholeFile.{LeavesOnly, LeavesRest}

-- ---- how a run ends whose words give settings

pub data Ending (Made : Type 0) : Type 0 where
  -- the files came to this, which is written or noted
  Came : Outcome Made → Ending Made
  -- a call failed on the file of this number: a dump's, from 1, or 0 for the file that is read first
  FailedRead : ℕ → Ending Made
  -- a write failed, when the text of this was to be written
  FailedWrite : Made → Ending Made
  -- memory ran out before anything was written
  OutOfMemory : Ending Made

abbrev pub status_at : {M : Type 0} → (M → Status) → Ending M → Status
status_at of_made (Came x) = status_of of_made x
status_at of_made (FailedRead number) = status.ReadFault
status_at of_made (FailedWrite made) = status.WriteFault
status_at of_made OutOfMemory = status.NoMemory

-- ---- when it may end so

-- the file of this number isn't there
abbrev pub absent_at : {M : Type 0} → ℕ → Outcome M
absent_at zero = NoFile
absent_at (suc n) = Ends (Absent (suc n))

-- the settings name a file of this number, and what comes before it has shown itself to be good; over a steady shelf it isn't there
pub record FailsAt {S M : Type 0} (program : Program S M) (settings : S) (known : Option Files) (steady : Type 0) (number : ℕ)
    : Type 0 where
  pub named : IsSomeAnd (program.reads settings) (λ reads. IsNumber (named_in reads) number)
  pub before : program.Before settings known number
  pub absent : steady → program.Gives settings known (absent_at number)

abbrev pub MayEnd : {S M : Type 0} → Program S M → S → Option Files → (steady : Type 0) → Ending M → Type 0
MayEnd program settings known steady (Came x) = program.Gives settings known x
MayEnd program settings known steady (FailedRead number) = FailsAt program settings known steady number
MayEnd program settings known steady (FailedWrite made) = program.Gives settings known (Makes made)
MayEnd program settings known steady OutOfMemory = ⊤

-- ---- what it writes and notes

-- a file is read first, and of it this holds
abbrev pub OfFirst : Option Reads → (First → Type 0) → Type 0
OfFirst reads Such = IsSomeAnd reads (λ r. IsSomeAnd r.first Such)

-- this is noted of dumps with this end
abbrev pub TellsEnd : DumpsEnd → (note : List ℕ) → Type 0
TellsEnd (Absent dump) note = note ≡ read_fault_note dump
TellsEnd (Malformed place fault) note = note ≡ malformed_note place fault
TellsEnd (Limit kind dump) note = note ≡ limit_note kind dump

-- this is written of what files came to, where something is made of them, and this is noted
abbrev pub TellsOutcome : {S M : Type 0} → Program S M → S → Outcome M → (text note : List ℕ) → Type 0
TellsOutcome program settings (Makes made) text note = program.IsText settings made text note
TellsOutcome program settings NoFile text note = note ≡ read_fault_note 0
TellsOutcome program settings TooLong text note = OfFirst (program.reads settings) (λ first. note ≡ too_long_note first.kind)
TellsOutcome program settings (BadLine line) text note = OfFirst (program.reads settings) (λ first. note ≡ bad_line_note first.kind line)
TellsOutcome program settings (Breaks line rule) text note = note ≡ broken_note line rule
TellsOutcome program settings (Lacks why) text note = note ≡ why
TellsOutcome program settings (Ends end) text note = TellsEnd end note

abbrev pub Tells : {S M : Type 0} → Program S M → S → Ending M → (text note : List ℕ) → Type 0
Tells program settings (Came x) text note = TellsOutcome program settings x text note
Tells program settings (FailedRead number) text note = note ≡ read_fault_note number
Tells program settings (FailedWrite made) text note =
    (unsaid : List ℕ) × program.IsText settings made text unsaid × (note ≡ plain_note status.WriteFault)
Tells program settings OutOfMemory text note = note ≡ plain_note status.NoMemory

-- out gained the whole text where something is made of the files, a prefix of it where a write failed, and else it is as it was
abbrev pub WritesOutcome : {M O : Type 0} → sink.Ghosts O → Outcome M → (text : List ℕ) → (old new : O) → Type 0
WritesOutcome o (Makes made) text old new = o.held new ≡ append_known (o.held old) text
WritesOutcome o NoFile text old new = new ≡ old
WritesOutcome o TooLong text old new = new ≡ old
WritesOutcome o (BadLine line) text old new = new ≡ old
WritesOutcome o (Breaks line rule) text old new = new ≡ old
WritesOutcome o (Lacks why) text old new = new ≡ old
WritesOutcome o (Ends end) text old new = new ≡ old

abbrev pub Writes : {M O : Type 0} → sink.Ghosts O → Ending M → (text : List ℕ) → (old new : O) → Type 0
Writes o (Came x) text old new = WritesOutcome o x text old new
Writes o (FailedRead number) text old new = new ≡ old
Writes o (FailedWrite made) text old new = GainsPrefix (o.held old) (o.held new) text
Writes o OutOfMemory text old new = new ≡ old

-- ---- what it opens and reads

-- of the files that are named, in their order, it opens those up to the one at which it ends
abbrev pub IsFilesEnd : {M : Type 0} → (M → FilesEnd) → Ending M → FilesEnd → Type 0
IsFilesEnd of_made (Came x) end = end ≡ end_of of_made x
IsFilesEnd of_made (FailedRead number) end = end ≡ EndedAt number
IsFilesEnd of_made (FailedWrite made) end = end ≡ of_made made
IsFilesEnd of_made OutOfMemory end = ⊤

-- of a dump with this end no octet behind octet 2 ^ 40 + 12 was read, and at the limit on bytes the header that shows it is the last thing
-- that was; a limit that is met before the first dump leaves nothing unread
abbrev pub ReadsDump : Option Reads → Option Files → (left : Option (List ℕ)) → DumpsEnd → Type 0
ReadsDump reads known left (Absent dump) = IfSome reads (λ r. IsDumpInReach r.dumps known left dump error.ReadFault)
ReadsDump reads known left (Malformed place fault) =
    IfSome reads (λ r. IsDumpInReach r.dumps known left place.dump (error.Malformed place fault))
ReadsDump reads known left (Limit kind zero) = IfSome reads (λ _. IsAtEnd left)
ReadsDump reads known left (Limit kind (suc n)) = IfSome reads (λ r. IsDumpInReach r.dumps known left (suc n) (error.Limit kind))

-- where something is made of the files, and at a bad line, a broken rule and what isn't there, nothing is left unread; of a first file that
-- is too long, or fails, no more was read than shows that it is
abbrev pub ReadsOutcome : {M : Type 0} → Option Reads → Option Files → (left : Option (List ℕ)) → Outcome M → Type 0
ReadsOutcome reads known left (Makes made) = IfSome reads (λ _. IsAtEnd left)
ReadsOutcome reads known left NoFile = OfFirst reads (λ first. LeavesOnly first.most first.name known left)
ReadsOutcome reads known left TooLong = OfFirst reads (λ first. LeavesRest first.most first.name known left)
ReadsOutcome reads known left (BadLine line) = IsAtEnd left
ReadsOutcome reads known left (Breaks line rule) = IsAtEnd left
ReadsOutcome reads known left (Lacks why) = IsAtEnd left
ReadsOutcome reads known left (Ends end) = ReadsDump reads known left end

abbrev pub ReadsTo : {M : Type 0} → Option Reads → Option Files → (left : Option (List ℕ)) → Ending M → Type 0
ReadsTo reads known left (Came x) = ReadsOutcome reads known left x
ReadsTo reads known left (FailedRead zero) = OfFirst reads (λ first. LeavesOnly first.most first.name known left)
ReadsTo reads known left (FailedRead (suc n)) = ReadsDump reads known left (Absent (suc n))
ReadsTo reads known left (FailedWrite made) = IfSome reads (λ _. IsAtEnd left)
ReadsTo reads known left OutOfMemory = ⊤

-- ---- a whole run

-- with these settings a run ended so, with this status and this note
pub record EndsIn {S M H O : Type 0} (program : Program S M) (settings : S) (h : shelf.Ghosts H) (o : sink.Ghosts O) (s : Status)
    (note : List ℕ) (shelf_old shelf_new : H) (out_old out_new : O) : Type 0 where
  pub ending : Ending M
  pub text : List ℕ
  pub why : MayEnd program settings (h.files shelf_old) (h.steady shelf_old) ending
  pub status : s ≡ status_at program.status ending
  pub tells : Tells program settings ending text note
  pub writes : Writes o ending text out_old out_new
  pub opens : OpensInOrder (option_map named_in (program.reads settings)) (IsFilesEnd program.end ending) (h.opens shelf_old)
      (h.opens shelf_new)
  pub reads : ReadsTo (program.reads settings) (h.files shelf_old) (h.left shelf_new) ending
  pub untouched : program.reads settings ≡ None → shelf_new ≡ shelf_old
  pub leaves_shelf : RunLeavesShelf h s shelf_old shelf_new
  pub leaves_out : RunLeavesOut o s out_old out_new

-- words that are no command are refused by a text on their usage, or memory runs out for it; nothing is opened and nothing is written
pub record RefusesWords {H O : Type 0} (s : Status) (note : List ℕ) (shelf_old shelf_new : H) (out_old out_new : O) : Type 0 where
  pub tells : ((s ≡ status.Usage) × HasUsageLine note) ⊎ ((s ≡ status.NoMemory) × (note ≡ plain_note status.NoMemory))
  pub shelf_stays : shelf_new ≡ shelf_old
  pub out_stays : out_new ≡ out_old

-- a run with these words
abbrev pub RunEnds : {S M H O : Type 0} → Program S M → List (List ℕ) → shelf.Ghosts H → sink.Ghosts O → Status → (note : List ℕ) →
    (shelf_old shelf_new : H) → (out_old out_new : O) → Type 0
RunEnds {S = S} program words h o s note shelf_old shelf_new out_old out_new =
    ((program.given words ≡ None) × RefusesWords s note shelf_old shelf_new out_old out_new)
    ⊎ ((settings : S) × (program.given words ≡ Some settings)
    × EndsIn program settings h o s note shelf_old shelf_new out_old out_new)

-- no call failed that stands in the way of an outcome: none on the shelf, but where a file isn't there, and none on out where there is
-- something to write
abbrev pub NoneFails : {M : Type 0} → Outcome M → (reads writes : Type 0) → Type 0
NoneFails (Makes made) reads writes = reads × writes
NoneFails NoFile reads writes = ⊤
NoneFails TooLong reads writes = reads
NoneFails (BadLine line) reads writes = reads
NoneFails (Breaks line rule) reads writes = reads
NoneFails (Lacks why) reads writes = reads
NoneFails (Ends (Absent dump)) reads writes = ⊤
NoneFails (Ends (Malformed place fault)) reads writes = reads
NoneFails (Ends (Limit kind dump)) reads writes = reads

-- where words and files come to this, a run has this status, or memory ran out
abbrev pub IsComplete : {S M : Type 0} → Program S M → List (List ℕ) → Option Files → (reads writes : Type 0) → Status → Type 0
IsComplete {M = M} program words known reads writes s =
    (files : Files) (x : Outcome M) → known ≡ Some files → Gives program words (Some files) x → NoneFails x reads writes →
    (s ≡ status_of program.status x) ⊎ (s ≡ status.NoMemory)

-- a run ended so, its note went to err, or a prefix of it where err failed, and where no call failed and the files are known it ended as
-- these ask
pub record KeepsPromises {S M H O E : Type 0} (program : Program S M) (words : List (List ℕ)) (h : shelf.Ghosts H) (o : sink.Ghosts O)
    (e : sink.Ghosts E) (s : Status) (shelf_old shelf_new : H) (out_old out_new : O) (err_old err_new : E) : Type 0 where
  pub ends : IsNoted (λ note. RunEnds program words h o s note shelf_old shelf_new out_old out_new)
      (e.faults err_old) (e.faults err_new) (e.held err_old) (e.held err_new)
  pub complete : IsComplete program words (h.files shelf_old) (IsQuiet (h.faults shelf_old) (h.faults shelf_new) ⊎ h.steady shelf_old)
      (IsQuiet (o.faults out_old) (o.faults out_new)) s
  pub err_later : e.faults err_old ≤ e.faults err_new
