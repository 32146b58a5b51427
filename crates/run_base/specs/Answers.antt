-- What a run answers where it has nothing to write, and the note that goes to err.
use Rattle.std.specs.Prelude.{◌≡◌, ◌⊎◌, ℕ, List, Option, string_bytes}
use Rattle.std.specs.Io.KnownBytes.{append_known}
use Rattle.tor_io.specs.Counts.{IsQuiet}
use Rattle.tor_io.specs.Contents.{GainsPrefix}
use Rattle.dump_read.specs.declared.error.DumpError.{DumpError}
use Rattle.dump_read.specs.declared.error.DumpError.TheVariants as error
use Rattle.tor_words.specs.declared.refused.WordsRefused.TheVariants as refused
use Rattle.run_base.specs.declared.status.Status.{Status}
use Rattle.run_base.specs.declared.status.Status.TheVariants as status
use Rattle.run_base.specs.declared.answer.Answer.{Answer}
use Rattle.run_base.specs.declared.answer.Note.{Note}
use Rattle.run_base.specs.declared.answer.Note.TheVariants.{Plain, Octets, Text}
use Rattle.run_base.specs.declared.answer.Refusal.{Refusal}
use Rattle.run_base.specs.declared.answer.Refusal.TheVariants as refusal
use Rattle.run_base.specs.declared.notes.FirstFile.{FirstFile}
use Rattle.run_base.specs.declared.whole_file.Unread.{Unread}
use Rattle.run_base.specs.declared.whole_file.Unread.TheVariants as unread
use Rattle.run_base.specs.Notes.{plain_note, malformed_note, limit_note, read_fault_note, too_long_note}

abbrev pub note_text : Status → Note → List ℕ
note_text s Plain = plain_note s
note_text s (Octets text) = text
note_text s (Text text) = string_bytes text

abbrev pub note_in : Answer → List ℕ
note_in answer = note_text answer.status answer.note

-- the status of want of memory, with the note that it has by itself
abbrev pub IsNoMemory : Answer → Type 0
IsNoMemory answer = (answer.status ≡ status.NoMemory) × (answer.note ≡ Plain)

-- this status with this note, unless memory ran out for it
abbrev pub AnswersWith : Status → List ℕ → Answer → Type 0
AnswersWith s text answer = ((answer.status ≡ s) × (note_in answer ≡ text)) ⊎ IsNoMemory answer

-- the answer where the reading of this dump stopped
abbrev pub AnswersStop : ℕ → DumpError → Answer → Type 0
AnswersStop dump (error.Malformed place fault) answer = AnswersWith status.Malformed (malformed_note place fault) answer
AnswersStop dump (error.Limit kind) answer = AnswersWith status.Limit (limit_note kind dump) answer
AnswersStop dump error.ReadFault answer = AnswersWith status.ReadFault (read_fault_note dump) answer
AnswersStop dump error.NoMemory answer = IsNoMemory answer

abbrev pub Answers : Refusal → Answer → Type 0
Answers (refusal.Words (refused.Usage text)) answer = (answer.status ≡ status.Usage) × (note_in answer ≡ text)
Answers (refusal.Words refused.NoMemory) answer = IsNoMemory answer
Answers (refusal.Dumps stopped) answer = AnswersStop stopped.dump stopped.error answer
Answers refusal.NoMemory answer = IsNoMemory answer

-- the answer where the file that is read first was not read
abbrev pub AnswersUnread : FirstFile → Unread → Answer → Type 0
AnswersUnread file unread.Failed answer = AnswersWith status.ReadFault (read_fault_note 0) answer
AnswersUnread file unread.TooLong answer = AnswersWith status.Limit (too_long_note file) answer
AnswersUnread file unread.NoMemory answer = IsNoMemory answer

-- a read failed
abbrev pub IsReadFault : Refusal → Type 0
IsReadFault (refusal.Words w) = ⊥
IsReadFault (refusal.Dumps stopped) = stopped.error ≡ error.ReadFault
IsReadFault refusal.NoMemory = ⊥

-- the words are none, or memory ran out for them
abbrev pub IsOfWords : Refusal → Type 0
IsOfWords (refusal.Words w) = Unit {0}
IsOfWords (refusal.Dumps stopped) = ⊥
IsOfWords refusal.NoMemory = ⊥

-- a sink gained a note such as this whole, if its count of faults didn't rise, and else a prefix of it
pub record IsNoted (Such : List ℕ → Type 0) (before now : ℕ) (old new : Option (List ℕ)) : Type 0 where
  pub text : List ℕ
  pub is_note : Such text
  pub whole : IsQuiet before now → new ≡ append_known old text
  pub prefix : GainsPrefix old new text
