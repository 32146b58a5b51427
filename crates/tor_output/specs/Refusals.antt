-- Why there is no text to write, and the answer then.
use Rattle.std.specs.Prelude.{◌≡◌, ◌≤◌, ◌⊎◌, ℕ, List, length, Option, Some, Result, Err, IfSome}
use Rattle.tor_io.specs.Contents.{Files}
use Rattle.as_rel.specs.declared.givens.KnownLines.{KnownLines}
use Rattle.dump_read.specs.declared.error.DumpError.{DumpError}
use Rattle.dump_read.specs.declared.error.DumpError.TheVariants as error
use Rattle.dump_read.specs.declared.error.LimitKind.TheVariants.{Paths}
use Rattle.dump_read.specs.declared.taking.Taken.{Taken}
use Rattle.dump_read.specs.Seen.{DumpsEnd, Absent, Malformed, Limit}
use Rattle.result_text.specs.declared.file.ResultFile.{ResultFile}
use Rattle.tor_words.specs.declared.settings.Settings.{Settings}
use Rattle.tor_words.specs.Given.{dumps_in}
use Rattle.run_base.specs.declared.status.Status.TheVariants as status
use Rattle.run_base.specs.declared.answer.Answer.{Answer}
use Rattle.run_base.specs.declared.answer.Refusal.{Refusal}
use Rattle.run_base.specs.declared.answer.Refusal.TheVariants as refusal
use Rattle.run_base.specs.declared.notes.FirstFile.{FirstFile}
use Rattle.run_base.specs.declared.whole_file.Unread.{Unread}
use Rattle.run_base.specs.declared.whole_file.Unread.TheVariants as unread
use Rattle.run_base.specs.Answers.{Answers, AnswersUnread, AnswersWith, IsReadFault, IsOfWords}
use Rattle.run_base.specs.Notes.{bad_line_note}
use Rattle.result_file.specs.VerdictText.{no_text}
use Rattle.tor_output.specs.declared.unwritten.Unwritten.{Unwritten}
use Rattle.tor_output.specs.declared.unwritten.Unwritten.TheVariants as unwritten
use Rattle.tor_output.specs.Before.{HasNoEndBefore, AreGivensGood}
use Rattle.tor_output.specs.First.{First, FirstEnd, NoFile, TooLong, BadLine, Broken}
use Rattle.tor_output.specs.First.{AreGivens, TakesUp, IsTakenUp, EndsAtFirst, first_in, first_kind}
use Rattle.tor_output.specs.Sampling.{sample_of}
use Rattle.tor_output.specs.Seen.{seen_beside, joined}

-- ---- dumps

-- what these dumps give, seen so, is this end, where the files are known
abbrev pub EndsSeen : (List (List ℕ) → Files → Result Taken DumpsEnd) → List (List ℕ) → Option Files → DumpsEnd → Type 0
EndsSeen see dumps known end = IfSome known (λ files. see dumps files ≡ Err end)

-- the reading of these dumps stopped for this, where they are seen so
abbrev pub StopsAt : (List (List ℕ) → Files → Result Taken DumpsEnd) → List (List ℕ) → Option Files → Type 0 → ℕ → DumpError → Type 0
StopsAt see dumps known steady dump (error.Malformed place fault) = EndsSeen see dumps known (Malformed place fault)
StopsAt see dumps known steady dump (error.Limit kind) = EndsSeen see dumps known (Limit kind dump)
StopsAt see dumps known steady dump error.ReadFault = (1 ≤ dump) × (dump ≤ length dumps)
    × IfSome known (λ files. HasNoEndBefore see dumps files dump) × (steady → EndsSeen see dumps known (Absent dump))
StopsAt see dumps known steady dump error.NoMemory = Unit {0}

-- the same of why there is nothing to write
abbrev pub IsStopAt : (List (List ℕ) → Files → Result Taken DumpsEnd) → List (List ℕ) → Option Files → Type 0 → Refusal → Type 0
IsStopAt see dumps known steady (refusal.Words w) = ⊥
IsStopAt see dumps known steady (refusal.Dumps stopped) = StopsAt see dumps known steady stopped.dump stopped.error
IsStopAt see dumps known steady refusal.NoMemory = Unit {0}

-- a result has more paths than may be, so that no dump is read on top of it
abbrev pub past_limit : Refusal
past_limit = refusal.Dumps (record { dump = 0; error = error.Limit Paths })

-- ---- the file that is read first

-- what is known, if a file says it, is this
abbrev pub AreGivensIn : First → Option Files → Option KnownLines → Type 0
AreGivensIn f known givens = IfSome known (λ files. AreGivens f files givens)

-- this result is taken up
abbrev pub TakesUpIn : First → Option Files → ResultFile → Type 0
TakesUpIn f known file = IfSome known (λ files. TakesUp f files file)

-- there is such a file, and it gives nothing for this
abbrev pub FirstEnds : First → Option Files → FirstFile → FirstEnd → Type 0
FirstEnds f known file end = (first_kind f ≡ Some file) × IfSome known (λ files. EndsAtFirst f files end)

-- it was not read for this
abbrev pub IsFirstUnread : First → Option Files → Type 0 → FirstFile → Unread → Type 0
IsFirstUnread f known steady file unread.Failed =
    (first_kind f ≡ Some file) × (steady → IfSome known (λ files. EndsAtFirst f files NoFile))
IsFirstUnread f known steady file unread.TooLong = FirstEnds f known file TooLong
IsFirstUnread f known steady file unread.NoMemory = Unit {0}

-- there is no text for this, since it gives nothing
abbrev pub IsUnwrittenAtFirst : First → Option Files → Type 0 → Unwritten → Type 0
IsUnwrittenAtFirst f known steady (unwritten.First file why) = IsFirstUnread f known steady file why
IsUnwrittenAtFirst f known steady (unwritten.BadLine file line) = FirstEnds f known file (BadLine line)
IsUnwrittenAtFirst f known steady (unwritten.Broken line rule) =
    IsTakenUp f × IfSome known (λ files. EndsAtFirst f files (Broken line rule))
IsUnwrittenAtFirst f known steady (unwritten.Refused (refusal.Words w)) = ⊥
IsUnwrittenAtFirst f known steady (unwritten.Refused (refusal.Dumps stopped)) = ⊥
IsUnwrittenAtFirst f known steady (unwritten.Refused refusal.NoMemory) = Unit {0}

-- ---- no text

-- the reading of the dumps, or of the sample, stopped for this, where what is read first is good; or that of the dumps on top of a result
abbrev pub IsStopBehindFirst : Settings → Option Files → Type 0 → ℕ → DumpError → Type 0
IsStopBehindFirst settings known steady dump e =
    (AreGivensGood settings known × StopsAt (seen_beside (sample_of settings.job) settings) (dumps_in settings) known steady dump e) ⊎
    ((file : ResultFile) × TakesUpIn (first_in settings) known file ×
    StopsAt (joined file settings.max_paths) (dumps_in settings) known steady dump e)

-- with these settings there is none for this
abbrev pub IsUnwrittenIn : Settings → Option Files → Type 0 → Unwritten → Type 0
IsUnwrittenIn settings known steady (unwritten.First file why) = IsFirstUnread (first_in settings) known steady file why
IsUnwrittenIn settings known steady (unwritten.BadLine file line) = FirstEnds (first_in settings) known file (BadLine line)
IsUnwrittenIn settings known steady (unwritten.Broken line rule) =
    IsTakenUp (first_in settings) × IfSome known (λ files. EndsAtFirst (first_in settings) files (Broken line rule))
IsUnwrittenIn settings known steady (unwritten.Refused (refusal.Words w)) = ⊥
IsUnwrittenIn settings known steady (unwritten.Refused (refusal.Dumps stopped)) =
    IsStopBehindFirst settings known steady stopped.dump stopped.error
IsUnwrittenIn settings known steady (unwritten.Refused refusal.NoMemory) = Unit {0}

-- a read failed
abbrev pub IsFailedRead : Unwritten → Type 0
IsFailedRead (unwritten.First file why) = why ≡ unread.Failed
IsFailedRead (unwritten.BadLine file line) = ⊥
IsFailedRead (unwritten.Broken line rule) = ⊥
IsFailedRead (unwritten.Refused why) = IsReadFault why

-- the words are none, or memory ran out for them
abbrev pub IsOfTheWords : Unwritten → Type 0
IsOfTheWords (unwritten.First file why) = ⊥
IsOfTheWords (unwritten.BadLine file line) = ⊥
IsOfTheWords (unwritten.Broken line rule) = ⊥
IsOfTheWords (unwritten.Refused why) = IsOfWords why

-- the answer where there is nothing to write
abbrev pub AnswersUnwritten : Unwritten → Answer → Type 0
AnswersUnwritten (unwritten.First file why) answer = AnswersUnread file why answer
AnswersUnwritten (unwritten.BadLine file line) answer = AnswersWith status.Malformed (bad_line_note file line) answer
AnswersUnwritten (unwritten.Broken line rule) answer = AnswersWith status.No (no_text line rule) answer
AnswersUnwritten (unwritten.Refused why) answer = Answers why answer
