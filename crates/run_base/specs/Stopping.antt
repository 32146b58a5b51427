-- Why a run makes nothing of its files, and what it answers then.
use Rattle.std.specs.Prelude.{◌≡◌, ◌<◌, ◌≤◌, ◌⊎◌, ◌++◌, ℕ, List, length, take}
use Rattle.std.specs.Prelude.{Option, IfOk, IfErr, OnOk, IfSome, IsErrAnd, Result, option_map}
use Rattle.std.specs.Prelude.{None, string_bytes, ⊤}
use Rattle.std.specs.Io.KnownBytes.{IsAtEnd, append_known}
use Rattle.tor_io.specs.Contents.{Files, GainsPrefix}
use Rattle.tor_io.specs.declared.shelf.Shelf as shelf
use Rattle.tor_io.specs.declared.sink.Sink as sink
use Rattle.dump_read.specs.declared.error.DumpError.{DumpError}
use Rattle.dump_read.specs.declared.error.DumpError.TheVariants as error
use Rattle.dump_read.specs.declared.taking.Taken.{Taken}
use Rattle.dump_read.specs.Seen.{Absent, Malformed, Limit}
use Rattle.dump_read.specs.declared.wanted.Wanted.{Wanted}
use Rattle.tor_words.specs.declared.refused.WordsRefused.{WordsRefused}
use Rattle.tor_words.specs.declared.refused.WordsRefused.TheVariants as refused
use Rattle.run_base.specs.declared.answer.Answer.{Answer}
use Rattle.run_base.specs.declared.reading.Stopped.{Stopped}
use Rattle.run_base.specs.declared.status.Status.TheVariants as status
use Rattle.run_base.specs.declared.stop.Stop.{Stop}
use Rattle.run_base.specs.declared.stop.Stop.TheVariants as stop
use Rattle.run_base.specs.declared.whole_file.Unread.TheVariants as unread
use Rattle.run_base.specs.Answers.{AnswersStop, AnswersUnread, AnswersWith, IsNoMemory, note_in}
use Rattle.run_base.specs.Frames.{ReadsShelf, RunLeavesOut}
use Rattle.run_base.specs.Notes.{bad_line_note, broken_note, plain_note}
use Rattle.run_base.specs.Opening.{OpensInOrder}
use Rattle.run_base.specs.Programs.{Reads, Makes, TooLong, BadLine, Breaks, Lacks, Ends, Program}
use Rattle.run_base.specs.Programs.{DumpsEndAt, DumpsGive, ReadBefore, named_in}
use Rattle.run_base.specs.Promises.{Ending, Came, FailedRead, OutOfMemory, MayEnd, OfFirst, IsFilesEnd, ReadsTo}
use Rattle.run_base.specs.Reach.{IsDumpInReach}

-- ---- the ending of a run that stops so

abbrev pub ending_at : {M : Type 0} → ℕ → DumpError → Ending M
ending_at dump (error.Malformed place fault) = Came (Ends (Malformed place fault))
ending_at dump (error.Limit kind) = Came (Ends (Limit kind dump))
ending_at dump error.ReadFault = FailedRead dump
ending_at dump error.NoMemory = OutOfMemory

abbrev pub ending_of : {M : Type 0} → Stop → Ending M
ending_of (stop.First file unread.Failed) = FailedRead 0
ending_of (stop.First file unread.TooLong) = Came TooLong
ending_of (stop.First file unread.NoMemory) = OutOfMemory
ending_of (stop.BadLine file line) = Came (BadLine line)
ending_of (stop.Broken line rule) = Came (Breaks line rule)
ending_of (stop.Lacks note) = Came (Lacks (string_bytes note))
ending_of (stop.Dumps stopped) = ending_at stopped.dump stopped.error
ending_of stop.NoMemory = OutOfMemory

-- what it says of the file that is read first is of the one that is named
abbrev pub IsOfFirst : Option Reads → Stop → Type 0
IsOfFirst reads (stop.First file why) = OfFirst reads (λ first. first.kind ≡ file)
IsOfFirst reads (stop.BadLine file line) = OfFirst reads (λ first. first.kind ≡ file)
IsOfFirst reads (stop.Broken line rule) = ⊤
IsOfFirst reads (stop.Lacks note) = ⊤
IsOfFirst reads (stop.Dumps stopped) = ⊤
IsOfFirst reads stop.NoMemory = ⊤

-- a call on the shelf failed
abbrev pub IsFailedCall : Stop → Type 0
IsFailedCall (stop.First file why) = why ≡ unread.Failed
IsFailedCall (stop.BadLine file line) = ⊥
IsFailedCall (stop.Broken line rule) = ⊥
IsFailedCall (stop.Lacks note) = ⊥
IsFailedCall (stop.Dumps stopped) = stopped.error ≡ error.ReadFault
IsFailedCall stop.NoMemory = ⊥

-- ---- dumps

-- reading stopped at the dump of this number for this, and all before it was read; over a steady shelf that dump isn't there
abbrev pub StopsDumps : Option Files → (steady : Type 0) → Wanted → List (List ℕ) → Taken → ℕ → DumpError → Type 0
StopsDumps known steady wanted dumps start dump (error.Malformed place fault) = DumpsEndAt known wanted dumps start (Malformed place fault)
StopsDumps known steady wanted dumps start dump (error.Limit kind) = DumpsEndAt known wanted dumps start (Limit kind dump)
StopsDumps known steady wanted dumps start dump error.ReadFault =
    (1 ≤ dump) × (dump ≤ length dumps) × ReadBefore known wanted dumps start dump × (steady → DumpsEndAt known wanted dumps start (Absent dump))
StopsDumps known steady wanted dumps start dump error.NoMemory = ⊤

-- all dumps give this on top of that, or reading stopped at one of them
pub record ReadsDumps {H : Type 0} (h : shelf.Ghosts H) (wanted : Wanted) (dumps : List (List ℕ)) (start : Taken)
    (result : Result Taken Stopped) (old new : H) : Type 0 where
  pub given : IfOk result (DumpsGive (h.files old) wanted dumps start)
  pub stopped : IfErr result (λ e. StopsDumps (h.files old) (h.steady old) wanted dumps start e.dump e.error)
  pub read_out : OnOk result (0 < length dumps → IsAtEnd (h.left new))
  pub reach : IfErr result (λ e. IsDumpInReach dumps (h.files old) (h.left new) e.dump e.error)
  pub opens : OnOk result (h.opens new ≡ h.opens old ++ dumps)
  pub opens_stop : IfErr result (λ e. h.opens new ≡ h.opens old ++ take e.dump dumps)
  pub reads_shelf : ReadsShelf h (IsErrAnd result (λ e. e.error ≡ error.ReadFault)) old new

-- ---- what a run makes of its files

-- by these settings this is made of the files on the shelf, or nothing for such a reason
pub record Asks {S M R H : Type 0} (program : Program S M) (settings : S) (h : shelf.Ghosts H) (made_of : R → M) (result : Result R Stop)
    (old new : H) : Type 0 where
  pub made : IfOk result (λ r. program.Gives settings (h.files old) (Makes (made_of r)))
  pub stopped : IfErr result (λ e. MayEnd program settings (h.files old) (h.steady old) (ending_of e))
  pub first : IfErr result (IsOfFirst (program.reads settings))
  pub opens : IfOk result (λ r. OpensInOrder (option_map named_in (program.reads settings)) (λ end. end ≡ program.end (made_of r))
      (h.opens old) (h.opens new))
  pub opens_stop : IfErr result (λ e. OpensInOrder (option_map named_in (program.reads settings)) (IsFilesEnd program.end (ending_of e))
      (h.opens old) (h.opens new))
  pub read_out : OnOk result (IfSome (program.reads settings) (λ _. IsAtEnd (h.left new)))
  pub reach : IfErr result (λ e. ReadsTo {M = M} (program.reads settings) (h.files old) (h.left new) (ending_of e))
  pub untouched : program.reads settings ≡ None → new ≡ old
  pub reads_shelf : ReadsShelf h (IsErrAnd result IsFailedCall) old new

-- ---- what it answers

abbrev pub AnswersTo : Stop → Answer → Type 0
AnswersTo (stop.First file why) answer = AnswersUnread file why answer
AnswersTo (stop.BadLine file line) answer = AnswersWith status.Malformed (bad_line_note file line) answer
AnswersTo (stop.Broken line rule) answer = AnswersWith status.No (broken_note line rule) answer
AnswersTo (stop.Lacks note) answer = (answer.status ≡ status.No) × (note_in answer ≡ string_bytes note)
AnswersTo (stop.Dumps stopped) answer = AnswersStop stopped.dump stopped.error answer
AnswersTo stop.NoMemory answer = IsNoMemory answer

abbrev pub AnswersWords : WordsRefused → Answer → Type 0
AnswersWords (refused.Usage text) answer = (answer.status ≡ status.Usage) × (note_in answer ≡ text)
AnswersWords refused.NoMemory answer = IsNoMemory answer

-- this is the text of what was made, with its note: it was written whole and is noted; or a write failed, and out took a prefix of it; or
-- memory ran out before
pub record WritesMade {S M O : Type 0} (program : Program S M) (settings : S) (o : sink.Ghosts O) (made : M) (answer : Answer)
    (old new : O) : Type 0 where
  pub ends : (answer.status ≡ program.status made) ⊎ ((answer.status ≡ status.WriteFault) ⊎ (answer.status ≡ status.NoMemory))
  pub text : List ℕ
  pub note : List ℕ
  pub is_text : program.IsText settings made text note
  pub done : answer.status ≡ program.status made → (o.held new ≡ append_known (o.held old) text) × (note_in answer ≡ note)
  pub cut_off : answer.status ≡ status.WriteFault →
      GainsPrefix (o.held old) (o.held new) text × (note_in answer ≡ plain_note status.WriteFault)
  pub nothing : answer.status ≡ status.NoMemory → (new ≡ old) × (note_in answer ≡ plain_note status.NoMemory)
  pub leaves_out : RunLeavesOut o answer.status old new
