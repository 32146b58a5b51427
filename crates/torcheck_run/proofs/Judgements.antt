-- How a check ends, by its verdict.
use Rattle.dump_read.specs.Wanted.{all_wanted}
use Rattle.std.proofs.Common.{◌≡◌, ◌≢◌, ◌⊎◌, ◌∙◌, ◌<◌, inl, inr, ℕ, zero, suc, Bool, List, [], ◌∷◌, length, Option, Some, None, Result, Ok, Err, refl, sym, ap, subst, arith}
use Rattle.std.specs.Prelude.{IfSome, IsOk}
use Rattle.tor_arena.specs.Limits.{max_paths}
use Rattle.tor_io.specs.Contents.{Files}
use Rattle.tor_io.specs.Counts.{IsQuiet, Rose}
use Rattle.tor_io.specs.declared.shelf.Shelf as shelf
use Rattle.tor_io.specs.declared.sink.Sink as sink
use Rattle.dump_read.specs.Seen.{DumpsEnd, Absent, Malformed as MalformedAt, Limit as LimitOf}
use Rattle.dump_read.specs.declared.taking.Taken.{Taken}
use Rattle.result_text.specs.declared.file.ResultFile.{ResultFile}
use Rattle.result_text.specs.Grammar.{IsTextOf}
use Rattle.result_file.specs.Limits.{max_result}
use Rattle.result_file.specs.Ruled.{IsAccepted}
use Rattle.tor_words.specs.Refused.{HasUsageLine}
use Rattle.result_rules.specs.Valid.{AcceptanceLaw}
use Rattle.result_rules.specs.declared.verdict.Verdict.{Verdict}
use Rattle.result_rules.specs.declared.verdict.Verdict.TheVariants.{Yes, No}
use Rattle.tor_words.specs.declared.check_settings.CheckSettings.{CheckSettings}
use Rattle.tor_words.specs.CheckGiven.{check_settings_given}
use Rattle.run_base.specs.declared.status.Status.{Status}
use Rattle.run_base.specs.declared.status.Status.TheVariants as status
use Rattle.run_base.specs.Notes.{plain_note}
use Rattle.run_base.specs.Programs.{Outcome, Makes, NoFile, TooLong, BadLine, Breaks, Lacks, Ends, DumpsGive, status_of_end}
use Rattle.run_base.specs.Programs.{status_of as outcome_status}
use Rattle.run_base.specs.Promises.{Ending, Came, FailedRead, FailedWrite, OutOfMemory, MayEnd, RunEnds, absent_at, status_at}
use Rattle.run_base.specs.Reading.{nothing}
use Rattle.run_base.proofs.Endings.{IsWritten}
use Rattle.run_base.proofs.Statuses.{not_quiet}
use Rattle.run_base.proofs.Values as values
use Rattle.torcheck_run.specs.declared.judging.Judged.{Judged}
use Rattle.torcheck_run.specs.Checking.{GivesOutcome, Holds, JudgesDumps, JudgesTaken, checking, status_of, verdict_in}
use Rattle.torcheck_run.specs.Judging.{CanBeJudged, IsVouched, seen_for}
use Rattle.torcheck_run.proofs.Comings.{vouched}

-- ---- the verdict

pub some_dumps : (any : Bool) (known : Option Files) (file : ResultFile) (dumps : List (List ℕ)) (taken : Taken) (verdict : Verdict) → 0 < length dumps
    → DumpsGive known (all_wanted file.sets) dumps (nothing max_paths) taken → JudgesTaken any file taken verdict → JudgesDumps any known file dumps verdict
some_dumps any known file [] taken verdict some seen judged = absurd (omega (arith, some))
some_dumps any known file (dump ∷ dumps) taken verdict some seen judged = (taken, seen, judged)

pub no_note : (v : Verdict) → plain_note (status_of v) ≡ []
no_note Yes = refl
no_note (No line rule) = refl

pub is_written : (j : Judged) → IsWritten (λ k. status_of (verdict_in k)) j
is_written j = by (verdict_in j)
  where
    by : (v : Verdict) → (status_of v ≢ status.ReadFault) × (status_of v ≢ status.WriteFault) × (status_of v ≢ status.NoMemory)
    by Yes = (λ e. absurd cc, λ e. absurd cc, λ e. absurd cc)
    by (No line rule) = (λ e. absurd cc, λ e. absurd cc, λ e. absurd cc)

-- ---- a whole run

is_yes : (v : Verdict) → status_of v ≡ status.Done → v ≡ Yes
is_yes Yes e = refl
is_yes (No line rule) e = absurd cc

end_not_done : (e : DumpsEnd) → status_of_end e ≡ status.Done → ⊥
end_not_done (Absent dump) e = absurd cc
end_not_done (MalformedAt place fault) e = absurd cc
end_not_done (LimitOf kind dump) e = absurd cc

-- where nothing stands in the way of a verdict, there is no other outcome
module _ (words : List (List ℕ)) (files : Files) (can : CanBeJudged words files) where
  not_ok : (file : ResultFile) (end : DumpsEnd) → Holds can.settings (Some files) file → seen_for file can.settings.dumps files ≡ Err end → ⊥
  not_ok file end held ends = by can.judged
    where
      same : held.0 ≡ can.bytes
      same = values.some_is (files can.settings.result) held.0 can.bytes held.1.there can.result.there

      dumps_end : (dumps : List (List ℕ)) → dumps ≡ [] → seen_for file dumps files ≡ Err end → ⊥
      dumps_end [] is e = values.ok_not_err (seen_for file [] files) _ end refl e
      dumps_end (dump ∷ dumps) is e = absurd cc

      ok_end : (r : Result Taken DumpsEnd) → IsOk r → r ≡ Err end → ⊥
      ok_end (Ok t) ok e = absurd cc
      ok_end (Err e') ok e = absurd cc

      by : ((file : ResultFile) → IsAccepted file can.bytes → ⊥) ⊎ ((can.settings.dumps ≡ []) ⊎ ((file : ResultFile) → IsTextOf file can.bytes → IsOk (seen_for file can.settings.dumps files))) → ⊥
      by (inl none) = none file (subst (IsAccepted file) same held.2)
      by (inr (inl empty)) = dumps_end can.settings.dumps empty ends
      by (inr (inr ok)) = ok_end (seen_for file can.settings.dumps files) (ok file (subst (IsTextOf file) same held.2.text)) ends

  made : (x : Outcome Judged) → GivesOutcome can.settings (Some files) x → (j : Judged) × (x ≡ Makes j)
  made (Makes j) gives = (j, refl)
  made NoFile gives = values.some_not_none (files can.settings.result) can.bytes can.result.there gives
  made TooLong gives = values.not_long max_result (files can.settings.result) can.bytes can.result.there can.result.short gives
  made (BadLine line) gives = absurd gives
  made (Breaks line rule) gives = absurd gives
  made (Lacks note) gives = absurd gives
  made (Ends end) gives = absurd (not_ok gives.0 end gives.1 gives.2)

  absent_not : (n : ℕ) → GivesOutcome can.settings (Some files) (absent_at n) → ⊥
  absent_not zero gives = values.some_not_none (files can.settings.result) can.bytes can.result.there gives
  absent_not (suc n) gives = not_ok gives.0 (Absent (suc n)) gives.1 gives.2

Said : Status → Type 0
Said s = ((s ≡ status.Done) ⊎ (s ≡ status.No)) ⊎ (s ≡ status.NoMemory)

said_by : (v : Verdict) (s : Status) → s ≡ status_of v → Said s
unfolding Said
said_by Yes s e = inl (inl e)
said_by (No line rule) s e = inl (inr e)

judged_by : (words : List (List ℕ)) (files : Files) (can : CanBeJudged words files) (steady : Type 0) (s : Status) (rb rn wb wn : ℕ) → IsQuiet rb rn ⊎ steady → IsQuiet wb wn
    → (s ≡ status.ReadFault → Rose rb rn) → (s ≡ status.WriteFault → Rose wb wn) → (ending : Ending Judged) → MayEnd checking can.settings (Some files) steady ending
    → s ≡ status_at checking.status ending → Said s
unfolding Said
judged_by words files can steady s rb rn wb wn reads writes rose wrote (Came x) why is =
    let j = made words files can x why in
    said_by (verdict_in j.0) s (is ∙ ap (outcome_status checking.status) j.1)
judged_by words files can steady s rb rn wb wn (inl quiet) writes rose wrote (FailedRead n) why is = not_quiet rb rn (rose is) quiet
judged_by words files can steady s rb rn wb wn (inr held) writes rose wrote (FailedRead n) why is = absurd (absent_not words files can n (why.absent held))
judged_by words files can steady s rb rn wb wn reads writes rose wrote (FailedWrite j) why is = not_quiet wb wn (wrote is) writes
judged_by words files can steady s rb rn wb wn reads writes rose wrote OutOfMemory why is = inr is

module _ {H O : Type 0} (words : List (List ℕ)) (h : shelf.Ghosts H) (o : sink.Ghosts O) (s : Status) (note : List ℕ) (old new : H) (out after : O) where
  pub always_judged : RunEnds checking words h o s note old new out after → (files : Files) → h.files old ≡ Some files → CanBeJudged words files
      → IsQuiet (h.faults old) (h.faults new) ⊎ h.steady old → IsQuiet (o.faults out) (o.faults after) → ((s ≡ status.Done) ⊎ (s ≡ status.No)) ⊎ (s ≡ status.NoMemory)
  unfolding Said
  always_judged (inl refused) = λ files is can reads writes. values.some_not_none (check_settings_given words) can.settings can.given refused.0
  always_judged (inr (settings, given, ends)) = λ files is can reads writes.
      let same : settings ≡ can.settings = values.some_is (check_settings_given words) settings can.settings given can.given in
      judged_by words files can (h.steady old) s (h.faults old) (h.faults new) (o.faults out) (o.faults after) reads writes ends.leaves_shelf.read_fault ends.leaves_out.write_fault ends.ending
      (subst (λ t. MayEnd checking t (Some files) (h.steady old) ends.ending) same (subst (λ known. MayEnd checking settings known (h.steady old) ends.ending) is ends.why)) ends.status

  -- ---- a yes

  yes_by : AcceptanceLaw → (settings : CheckSettings) → check_settings_given words ≡ Some settings → (files : Files) (steady : Type 0) (ending : Ending Judged)
      → MayEnd checking settings (Some files) steady ending → status_at checking.status ending ≡ status.Done → IsVouched words files
  yes_by law settings given files steady (Came (Makes j)) why is = vouched law words files j (is_yes (verdict_in j) is) (settings, given, why)
  yes_by law settings given files steady (Came NoFile) why is = absurd cc
  yes_by law settings given files steady (Came TooLong) why is = absurd cc
  yes_by law settings given files steady (Came (BadLine line)) why is = absurd why
  yes_by law settings given files steady (Came (Breaks line rule)) why is = absurd why
  yes_by law settings given files steady (Came (Lacks reason)) why is = absurd why
  yes_by law settings given files steady (Came (Ends end)) why is = absurd (end_not_done end is)
  yes_by law settings given files steady (FailedRead n) why is = absurd cc
  yes_by law settings given files steady (FailedWrite j) why is = absurd cc
  yes_by law settings given files steady OutOfMemory why is = absurd cc

  yes_in : AcceptanceLaw → (settings : CheckSettings) → check_settings_given words ≡ Some settings → (known : Option Files) (steady : Type 0) (ending : Ending Judged)
      → MayEnd checking settings known steady ending → status_at checking.status ending ≡ status.Done → IfSome known (IsVouched words)
  yes_in law settings given None steady ending why is = tt
  yes_in law settings given (Some files) steady ending why is = yes_by law settings given files steady ending why is

  refused_not : ((s ≡ status.Usage) × HasUsageLine note) ⊎ ((s ≡ status.NoMemory) × (note ≡ plain_note status.NoMemory)) → s ≡ status.Done → ⊥
  refused_not (inl is) done = let both : status.Usage ≡ status.Done = sym is.0 ∙ done in absurd cc
  refused_not (inr is) done = let both : status.NoMemory ≡ status.Done = sym is.0 ∙ done in absurd cc

  pub valid : AcceptanceLaw → RunEnds checking words h o s note old new out after → s ≡ status.Done → IfSome (h.files old) (IsVouched words)
  valid law (inl refused) = λ is. absurd (refused_not refused.1.tells is)
  valid law (inr (settings, given, ends)) = λ is. yes_in law settings given (h.files old) (h.steady old) ends.ending ends.why (sym ends.status ∙ is)
