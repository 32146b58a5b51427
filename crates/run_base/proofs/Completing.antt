-- A run ends with the status of what words and files come to, or for want of memory.
use Rattle.std.proofs.Common.{◌≡◌, ◌≤◌, ◌⊎◌, ◌∙◌, inl, inr, ℕ, zero, suc, List, Option, None, Some, refl, sym, ap, subst}
use Rattle.tor_io.specs.Counts.{Rose, IsQuiet}
use Rattle.tor_io.specs.Contents.{Files}
use Rattle.tor_io.specs.declared.shelf.Shelf as shelf
use Rattle.tor_io.specs.declared.sink.Sink as sink
use Rattle.dump_read.specs.Seen.{Absent, Malformed, Limit}
use Rattle.run_base.specs.declared.status.Status.{Status}
use Rattle.run_base.specs.declared.status.Status.TheVariants as status
use Rattle.run_base.specs.declared.answer.Answer.{Answer}
use Rattle.run_base.specs.Answers.{IsNoted, note_in}
use Rattle.run_base.specs.Programs.{Outcome, Makes, NoFile, TooLong, BadLine, Breaks, Lacks, Ends, Program, OneOutcome, Gives, status_of}
use Rattle.run_base.specs.Promises.{Ending, Came, FailedRead, FailedWrite, OutOfMemory, IsComplete, KeepsPromises, MayEnd, NoneFails, RunEnds, absent_at, status_at}
use Rattle.run_base.proofs.Statuses.{not_quiet}
use Rattle.run_base.proofs.Values as values

-- no call on the shelf failed, or a file isn't there
calm : {M : Type 0} (of_made : M → Status) (x : Outcome M) (reads writes : Type 0) → NoneFails x reads writes → reads ⊎ (status_of of_made x ≡ status.ReadFault)
calm of_made (Makes made) reads writes none = inl none.0
calm of_made NoFile reads writes none = inr refl
calm of_made TooLong reads writes none = inl none
calm of_made (BadLine line) reads writes none = inl none
calm of_made (Breaks line rule) reads writes none = inl none
calm of_made (Lacks why) reads writes none = inl none
calm of_made (Ends (Absent dump)) reads writes none = inr refl
calm of_made (Ends (Malformed place fault)) reads writes none = inl none
calm of_made (Ends (Limit kind dump)) reads writes none = inl none

absent_status : {M : Type 0} (of_made : M → Status) (n : ℕ) → status_of of_made (absent_at n) ≡ status.ReadFault
absent_status of_made zero = refl
absent_status of_made (suc n) = refl

module _ {S M : Type 0} (program : Program S M) (one : OneOutcome program) (settings : S) (files : Files) (x : Outcome M) (gives : program.Gives settings (Some files) x)
    (steady : Type 0) (rb rn wb wn : ℕ) (none : NoneFails x (IsQuiet rb rn ⊎ steady) (IsQuiet wb wn)) (s : Status)
    (rose : s ≡ status.ReadFault → Rose rb rn) (wrote : s ≡ status.WriteFault → Rose wb wn) where
  abbrev Comes : Type 0
  Comes = (s ≡ status_of program.status x) ⊎ (s ≡ status.NoMemory)

  same : (y : Outcome M) → program.Gives settings (Some files) y → status_of program.status y ≡ status_of program.status x
  same y other = ap (status_of program.status) (one settings files y x other gives)

  at_read : (n : ℕ) → s ≡ status.ReadFault → (steady → program.Gives settings (Some files) (absent_at n)) → (IsQuiet rb rn ⊎ steady) ⊎ (status_of program.status x ≡ status.ReadFault) → Comes
  at_read n is absent (inr other) = inl (is ∙ sym other)
  at_read n is absent (inl (inl quiet)) = not_quiet rb rn (rose is) quiet
  at_read n is absent (inl (inr held)) = inl (is ∙ sym (absent_status program.status n) ∙ same (absent_at n) (absent held))

  by_ending : (ending : Ending M) → MayEnd program settings (Some files) steady ending → s ≡ status_at program.status ending → Comes
  by_ending (Came y) why is = inl (is ∙ same y why)
  by_ending (FailedRead n) why is = at_read n is why.absent (calm program.status x (IsQuiet rb rn ⊎ steady) (IsQuiet wb wn) none)
  by_ending (FailedWrite made) why is =
      let made_is : x ≡ Makes made = one settings files x (Makes made) gives why in
      let quiet = (subst (λ y. NoneFails y (IsQuiet rb rn ⊎ steady) (IsQuiet wb wn)) made_is none).1 in
      not_quiet wb wn (wrote is) quiet
  by_ending OutOfMemory why is = inr is

completes : {S M H O : Type 0} (program : Program S M) (words : List (List ℕ)) (h : shelf.Ghosts H) (o : sink.Ghosts O) (s : Status) (note : List ℕ) (old new : H) (out after : O)
    → OneOutcome program → RunEnds program words h o s note old new out after
    → IsComplete program words (h.files old) (IsQuiet (h.faults old) (h.faults new) ⊎ h.steady old) (IsQuiet (o.faults out) (o.faults after)) s
completes program words h o s note old new out after one (inl refused) = λ files x is gives none. values.some_not_none (program.given words) gives.0 gives.1 refused.0
completes program words h o s note old new out after one (inr (settings, given, ends)) = λ files x is gives none.
    let same : gives.0 ≡ settings = values.some_is (program.given words) gives.0 settings gives.1 given in
    by_ending program one settings files x (subst (λ t. program.Gives t (Some files) x) same gives.2) (h.steady old) (h.faults old) (h.faults new) (o.faults out) (o.faults after) none s
    ends.leaves_shelf.read_fault ends.leaves_out.write_fault ends.ending
    (subst (λ known. MayEnd program settings known (h.steady old) ends.ending) is ends.why) ends.status

noted_as : (Such : List ℕ → Type 0) (text : List ℕ) (before now : ℕ) (old new : Option (List ℕ)) → Such text → IsNoted (λ note. note ≡ text) before now old new → IsNoted Such before now old new
noted_as Such text before now old new such is =
    record { text = is.text; is_note = subst Such (sym is.is_note) such; whole = is.whole; prefix = is.prefix }

-- a run that ended with this answer, and noted it, keeps all promises
pub kept : {S M H O E : Type 0} (program : Program S M) (words : List (List ℕ)) (h : shelf.Ghosts H) (o : sink.Ghosts O) (e : sink.Ghosts E) (answer : Answer) (s : Status) (old new : H)
    (out after : O) (err noted : E) → OneOutcome program → RunEnds program words h o answer.status (note_in answer) old new out after → s ≡ answer.status
    → IsNoted (λ note. note ≡ note_in answer) (e.faults err) (e.faults noted) (e.held err) (e.held noted) → e.faults err ≤ e.faults noted
    → KeepsPromises program words h o e s old new out after err noted
kept program words h o e answer s old new out after err noted one ends is note later =
    let same = subst (λ t. RunEnds program words h o t (note_in answer) old new out after) (sym is) ends in
    record {
      ends = noted_as (λ n. RunEnds program words h o s n old new out after) (note_in answer) (e.faults err) (e.faults noted) (e.held err) (e.held noted) same note;
      complete = completes program words h o s (note_in answer) old new out after one same;
      err_later = later;
    }
