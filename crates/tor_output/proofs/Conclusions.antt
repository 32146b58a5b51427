-- How a run ends with its settings, by the text that was made or why there is none.
use Rattle.std.proofs.Common.{◌≡◌, ◌≤◌, ◌∙◌, inl, inr, ℕ, zero, suc, List, length, Option, Some, None, Result, Ok, Err, refl, sym, ap, subst, arith}
use Rattle.std.specs.Prelude.{IfSome, IsSomeAnd, option_map, ⊤}
use Rattle.std.specs.Io.KnownBytes.{IsAtEnd}
use Rattle.tor_io.specs.Contents.{Files}
use Rattle.tor_io.specs.declared.shelf.Shelf as shelf
use Rattle.dump_read.specs.declared.error.DumpError.{DumpError}
use Rattle.dump_read.specs.declared.error.DumpError.TheVariants as error
use Rattle.dump_read.specs.declared.error.LimitKind.TheVariants.{Paths}
use Rattle.dump_read.specs.declared.taking.Taken.{Taken}
use Rattle.dump_read.specs.Seen.{DumpsEnd, Absent, Malformed, Limit}
use Rattle.tor_words.specs.declared.job.Job.{Job}
use Rattle.tor_words.specs.declared.job.Job.TheVariants.{Count, Infer, Sample, Migrate, Resume}
use Rattle.tor_words.specs.declared.settings.Settings.{Settings}
use Rattle.tor_words.specs.Given.{dumps_in, dumps_of}
use Rattle.run_base.specs.declared.answer.Answer.{Answer}
use Rattle.run_base.specs.declared.answer.Refusal.TheVariants as refusal
use Rattle.run_base.specs.declared.notes.FirstFile.{FirstFile}
use Rattle.run_base.specs.declared.notes.FirstFile.TheVariants as kind
use Rattle.run_base.specs.declared.stop.Stop.{Stop}
use Rattle.run_base.specs.declared.stop.Stop.TheVariants as stop
use Rattle.run_base.specs.declared.whole_file.Unread.TheVariants as unread
use Rattle.run_base.specs.Frames.{ReadsShelf}
use Rattle.run_base.specs.Opening.{FilesEnd, AllRead, EndedAt, IsNumber, OpensInOrder}
use Rattle.run_base.specs.Programs.{named_in}
use Rattle.run_base.specs.Promises as promises
use Rattle.run_base.specs.Promises.{IsFilesEnd, MayEnd, ReadsTo}
use Rattle.run_base.specs.Reach as reach
use Rattle.run_base.specs.Stopping.{AnswersTo, Asks, IsFailedCall, IsOfFirst, ending_at, ending_of}
use Rattle.run_base.specs.WholeFile.{LeavesOnly, LeavesRest}
use Rattle.run_base.proofs.Openings.{opens_weaker}
use Rattle.run_base.specs.Reading.{nothing}
use Rattle.dump_read.specs.Refusals.{IsOfDump}
use Rattle.tor_output.specs.declared.output.Output.{Output}
use Rattle.tor_output.specs.declared.unwritten.Unwritten.{Unwritten}
use Rattle.tor_output.specs.declared.unwritten.Unwritten.TheVariants as unwritten
use Rattle.tor_output.specs.First as first
use Rattle.tor_output.specs.First.{first_kind, first_of}
use Rattle.tor_output.specs.Inferring.{Basis, Seen, Joined, Held, GivesBasis, GivesEnd, inferring, outcome_of, reads_by}
use Rattle.tor_output.specs.Opening.{UnwrittenEnds, named_by}
use Rattle.tor_output.specs.Output.{IsOutput, IsOutputOf}
use Rattle.tor_output.specs.Reach.{IsDumpInReach, IsUnwrittenInReach}
use Rattle.tor_output.specs.Refusals.{AnswersUnwritten, EndsSeen, IsFailedRead, IsOfTheWords, IsStopBehindFirst, IsUnwrittenIn, StopsAt}
use Rattle.tor_output.specs.Before.{HasNoEndBefore, IsGoodBefore}
use Rattle.tor_output.specs.Sampling.{BySample, known_in, sample_of}
use Rattle.tor_output.specs.Seen as seen
use Rattle.tor_output.specs.Seen.{ComesTo, ComesOfSome, Outcome, joined, seen_beside}
use Rattle.tor_output.specs.Written.{Written}
use Rattle.tor_output.proofs.Unwritings.{end_comes, end_comes_on, joins_before}

-- ---- the files that a job names

same_named : (job : Job) → option_map named_in (reads_by job) ≡ named_by job
same_named (Count counted dumps) = refl
same_named (Infer made None dumps) = refl
same_named (Infer made (Some given) dumps) = refl
same_named (Sample seed) = refl
same_named (Migrate name) = refl
same_named (Resume earlier dumps) = refl

of_first : (job : Job) (P : ℕ → List ℕ → Type 0) → first.OfFirst (first_of job) P → promises.OfFirst (reads_by job) (λ f. P f.most f.name)
of_first (Count counted dumps) P is = is
of_first (Infer made None dumps) P is = is
of_first (Infer made (Some given) dumps) P is = is
of_first (Sample seed) P is = is
of_first (Migrate name) P is = is
of_first (Resume earlier dumps) P is = is

kind_is : (a b : FirstFile) → ◌≡◌ {A = Option FirstFile} (Some a) (Some b) → a ≡ b
kind_is a b e = cc

no_kind : {X : Type 0} (b : FirstFile) → ◌≡◌ {A = Option FirstFile} None (Some b) → X
no_kind b e = absurd cc

of_kind : (job : Job) (file : FirstFile) → first_kind (first_of job) ≡ Some file → promises.OfFirst (reads_by job) (λ f. f.kind ≡ file)
of_kind (Count counted dumps) file is = no_kind file is
of_kind (Infer made None dumps) file is = no_kind file is
of_kind (Infer made (Some given) dumps) file is = kind_is kind.Given file is
of_kind (Sample seed) file is = no_kind file is
of_kind (Migrate name) file is = kind_is kind.Result file is
of_kind (Resume earlier dumps) file is = kind_is kind.Result file is

number_0 : (job : Job) (file : FirstFile) → first_kind (first_of job) ≡ Some file → IsSomeAnd (reads_by job) (λ r. IsNumber (named_in r) 0)
number_0 (Count counted dumps) file is = no_kind file is
number_0 (Infer made None dumps) file is = no_kind file is
number_0 (Infer made (Some given) dumps) file is = refl
number_0 (Sample seed) file is = no_kind file is
number_0 (Migrate name) file is = refl
number_0 (Resume earlier dumps) file is = refl

of_dumps : (job : Job) (n : ℕ) → suc n ≤ length (dumps_of job) → IsSomeAnd (reads_by job) (λ r. IsNumber (named_in r) (suc n))
of_dumps (Count counted dumps) n is = is
of_dumps (Infer made given dumps) n is = is
of_dumps (Sample seed) n is = absurd (omega (arith, is))
of_dumps (Migrate name) n is = absurd (omega (arith, is))
of_dumps (Resume earlier dumps) n is = is

read_dumps : (job : Job) (P : List (List ℕ) → Type 0) → P (dumps_of job) → IfSome (reads_by job) (λ r. P r.dumps)
read_dumps (Count counted dumps) P is = is
read_dumps (Infer made given dumps) P is = is
read_dumps (Sample seed) P is = tt
read_dumps (Migrate name) P is = is
read_dumps (Resume earlier dumps) P is = is

-- what is said of files alone
of_files : (job : Job) (P : Type 0) → BySample (sample_of job) ⊤ P → IfSome (reads_by job) (λ _. P)
of_files (Count counted dumps) P is = is
of_files (Infer made given dumps) P is = is
of_files (Sample seed) P is = tt
of_files (Migrate name) P is = is
of_files (Resume earlier dumps) P is = is

of_sample : (job : Job) (P : Type 0) → BySample (sample_of job) P ⊤ → reads_by job ≡ None → P
of_sample (Count counted dumps) P is none = absurd cc
of_sample (Infer made given dumps) P is none = absurd cc
of_sample (Sample seed) P is none = is
of_sample (Migrate name) P is none = absurd cc
of_sample (Resume earlier dumps) P is none = absurd cc

-- ---- why there is no text, as a stop of the run

abbrev pub stop_of : Unwritten → Stop
stop_of (unwritten.First file unread.Failed) = stop.First file unread.Failed
stop_of (unwritten.First file unread.TooLong) = stop.First file unread.TooLong
stop_of (unwritten.First file unread.NoMemory) = stop.NoMemory
stop_of (unwritten.BadLine file line) = stop.BadLine file line
stop_of (unwritten.Broken line rule) = stop.Broken line rule
stop_of (unwritten.Refused (refusal.Words w)) = stop.NoMemory
stop_of (unwritten.Refused (refusal.Dumps stopped)) = stop.Dumps stopped
stop_of (unwritten.Refused refusal.NoMemory) = stop.NoMemory

module _ (settings : Settings) (known : Option Files) (steady : Type 0) where
  abbrev Known : Option Files
  Known = known_in settings known

  at_dump : (see : List (List ℕ) → Files → Result Taken DumpsEnd) (dump : ℕ) (e : DumpError) → ((end : DumpsEnd) → EndsSeen see (dumps_in settings) Known end → GivesEnd settings Known (seen.Ends end))
      → (IfSome Known (λ files. HasNoEndBefore see (dumps_in settings) files dump) → IsGoodBefore settings Known dump) → StopsAt see (dumps_in settings) Known steady dump e
      → MayEnd inferring settings known steady (ending_at dump e)
  at_dump see dump (error.Malformed place fault) comes good stops = comes (Malformed place fault) stops
  at_dump see dump (error.Limit kind) comes good stops = comes (Limit kind dump) stops
  at_dump see zero error.ReadFault comes good stops = absurd (omega (arith, stops.0))
  at_dump see (suc n) error.ReadFault comes good stops =
      record { named = of_dumps settings.job n stops.1; before = good stops.2; absent = λ held. comes (Absent (suc n)) (stops.3 held) }
  at_dump see dump error.NoMemory comes good stops = tt

  behind_first : (dump : ℕ) (e : DumpError) → IsStopBehindFirst settings Known steady dump e → MayEnd inferring settings known steady (ending_at dump e)
  behind_first dump e (inl h) =
      at_dump (seen_beside (sample_of settings.job) settings) dump e (λ end ends. end_comes settings Known end h.0 ends) (λ before. inl (h.0, before)) h.1
  behind_first dump e (inr h) =
      at_dump (joined h.0 settings.max_paths) dump e (λ end ends. end_comes_on settings Known h.0 end h.1 ends) (λ before. inr (joins_before settings Known h.0 dump h.1 before)) h.2

  may_end : (u : Unwritten) → IsUnwrittenIn settings Known steady u → MayEnd inferring settings known steady (ending_of (stop_of u))
  may_end (unwritten.First file unread.Failed) why = record { named = number_0 settings.job file why.0; before = tt; absent = why.1 }
  may_end (unwritten.First file unread.TooLong) why = why.1
  may_end (unwritten.First file unread.NoMemory) why = tt
  may_end (unwritten.BadLine file line) why = why.1
  may_end (unwritten.Broken line rule) why = why
  may_end (unwritten.Refused (refusal.Words w)) why = tt
  may_end (unwritten.Refused (refusal.Dumps stopped)) why = behind_first stopped.dump stopped.error why
  may_end (unwritten.Refused refusal.NoMemory) why = tt

  is_of_first : (u : Unwritten) → IsUnwrittenIn settings Known steady u → IsOfFirst (reads_by settings.job) (stop_of u)
  is_of_first (unwritten.First file unread.Failed) why = of_kind settings.job file why.0
  is_of_first (unwritten.First file unread.TooLong) why = of_kind settings.job file why.0
  is_of_first (unwritten.First file unread.NoMemory) why = tt
  is_of_first (unwritten.BadLine file line) why = of_kind settings.job file why.0
  is_of_first (unwritten.Broken line rule) why = tt
  is_of_first (unwritten.Refused (refusal.Words w)) why = tt
  is_of_first (unwritten.Refused (refusal.Dumps stopped)) why = tt
  is_of_first (unwritten.Refused refusal.NoMemory) why = tt

module _ (settings : Settings) (known : Option Files) (left : Option (List ℕ)) where
  -- a dump at which reading stopped, where one of this number is named
  to_reach : (dump : ℕ) (e : DumpError) → IsOfDump dump e → IsDumpInReach (dumps_in settings) known left dump e → reach.IsDumpInReach (dumps_in settings) known left dump e
  to_reach dump e placed is = record { from_one = is.0; named = is.1; placed = placed; bounded = is.2; shown = is.3 }

  dump_reach : (dump : ℕ) (e : DumpError) → IsOfDump dump e × IsDumpInReach (dumps_in settings) known left dump e
      → (P : List (List ℕ) → Type 0) → (reach.IsDumpInReach (dumps_in settings) known left dump e → P (dumps_in settings)) → IfSome (reads_by settings.job) (λ r. P r.dumps)
  dump_reach dump e is P to = read_dumps settings.job P (to (to_reach dump e is.0 is.1))

  stops_to : (dump : ℕ) (e : DumpError) → IsOfDump dump e × IsDumpInReach (dumps_in settings) known left dump e → ReadsTo {M = Basis} (reads_by settings.job) known left (ending_at dump e)
  stops_to dump (error.Malformed place fault) is =
      dump_reach dump (error.Malformed place fault) is (λ d. reach.IsDumpInReach d known left place.dump (error.Malformed place fault))
      (λ r. subst (λ n. reach.IsDumpInReach (dumps_in settings) known left n (error.Malformed place fault)) (sym is.0) r)
  stops_to zero (error.Limit kind) is = absurd (omega (arith, is.1.0))
  stops_to (suc n) (error.Limit kind) is = dump_reach (suc n) (error.Limit kind) is (λ d. reach.IsDumpInReach d known left (suc n) (error.Limit kind)) (λ r. r)
  stops_to zero error.ReadFault is = absurd (omega (arith, is.1.0))
  stops_to (suc n) error.ReadFault is = dump_reach (suc n) error.ReadFault is (λ d. reach.IsDumpInReach d known left (suc n) error.ReadFault) (λ r. r)
  stops_to dump error.NoMemory is = tt

  past_limit : (dump : ℕ) (e : DumpError) → dump ≡ 0 → e ≡ error.Limit Paths → IsAtEnd left → ReadsTo {M = Basis} (reads_by settings.job) known left (ending_at dump e)
  past_limit dump e zeroth is at_end =
      subst (λ n. ReadsTo {M = Basis} (reads_by settings.job) known left (ending_at n e)) (sym zeroth)
      (subst (λ f. ReadsTo {M = Basis} (reads_by settings.job) known left (ending_at 0 f)) (sym is) (read_dumps settings.job (λ _. IsAtEnd left) at_end))

  -- of a sample nothing is read
  of_none : (job : Job) (dump : ℕ) (e : DumpError) → BySample (sample_of job) (e ≡ error.ReadFault → ⊥) ⊤
      → BySample (sample_of job) ⊤ (IsOfDump dump e × IsDumpInReach (dumps_of job) known left dump e) → (IsOfDump dump e × IsDumpInReach (dumps_of job) known left dump e → ReadsTo {M = Basis} (reads_by job) known left (ending_at dump e))
      → ReadsTo {M = Basis} (reads_by job) known left (ending_at dump e)
  of_none (Count counted dumps) dump e calm is to = to is
  of_none (Infer made given dumps) dump e calm is to = to is
  of_none (Sample seed) dump (error.Malformed place fault) calm is to = tt
  of_none (Sample seed) zero (error.Limit kind) calm is to = tt
  of_none (Sample seed) (suc n) (error.Limit kind) calm is to = tt
  of_none (Sample seed) zero error.ReadFault calm is to = absurd (calm refl)
  of_none (Sample seed) (suc n) error.ReadFault calm is to = tt
  of_none (Sample seed) dump error.NoMemory calm is to = tt
  of_none (Migrate name) dump e calm is to = to is
  of_none (Resume earlier dumps) dump e calm is to = to is

  reads_to : (u : Unwritten) → IsUnwrittenInReach settings known left u → (BySample (sample_of settings.job) (IsFailedRead u → ⊥) ⊤) → ReadsTo {M = Basis} (reads_by settings.job) known left (ending_of (stop_of u))
  reads_to (unwritten.First file unread.Failed) is calm = of_first settings.job (λ most name. LeavesOnly most name known left) is
  reads_to (unwritten.First file unread.TooLong) is calm = of_first settings.job (λ most name. LeavesRest most name known left) is
  reads_to (unwritten.First file unread.NoMemory) is calm = tt
  reads_to (unwritten.BadLine file line) is calm = is
  reads_to (unwritten.Broken line rule) is calm = is
  reads_to (unwritten.Refused (refusal.Words w)) is calm = tt
  reads_to (unwritten.Refused (refusal.Dumps stopped)) (inl past) calm = past_limit stopped.dump stopped.error past.1 past.2 past.3
  reads_to (unwritten.Refused (refusal.Dumps stopped)) (inr is) calm = of_none settings.job stopped.dump stopped.error calm is (stops_to stopped.dump stopped.error)
  reads_to (unwritten.Refused refusal.NoMemory) is calm = tt

-- which files were opened
ended_at : (u : Unwritten) (end : FilesEnd) → UnwrittenEnds u end → IsFilesEnd (λ (b : Basis). AllRead) (ending_of (stop_of u)) end
ended_at (unwritten.First file unread.Failed) end is = is
ended_at (unwritten.First file unread.TooLong) end is = is
ended_at (unwritten.First file unread.NoMemory) end is = tt
ended_at (unwritten.BadLine file line) end is = is
ended_at (unwritten.Broken line rule) end is = is
ended_at (unwritten.Refused (refusal.Words w)) end is = tt
ended_at (unwritten.Refused (refusal.Dumps stopped)) end is = by stopped.dump stopped.error is.0 is.1
  where
    by : (dump : ℕ) (e : DumpError) → IsOfDump dump e → end ≡ EndedAt dump → IsFilesEnd (λ (b : Basis). AllRead) (ending_at dump e) end
    by dump (error.Malformed place fault) placed is = is ∙ ap EndedAt (sym placed)
    by dump (error.Limit kind) placed is = is
    by dump error.ReadFault placed is = is
    by dump error.NoMemory placed is = tt
ended_at (unwritten.Refused refusal.NoMemory) end is = tt

opens_at : (job : Job) (P Q : FilesEnd → Type 0) (before after : List (List ℕ)) → ((end : FilesEnd) → P end → Q end) → OpensInOrder (named_by job) P before after
    → OpensInOrder (option_map named_in (reads_by job)) Q before after
opens_at job P Q before after wider opens = subst (λ o. OpensInOrder o Q before after) (sym (same_named job)) (opens_weaker (named_by job) P Q before after wider opens)

-- a failed call
failed_call : (u : Unwritten) → IsFailedRead u → IsFailedCall (stop_of u)
failed_call (unwritten.First file unread.Failed) is = is
failed_call (unwritten.First file unread.TooLong) is = is
failed_call (unwritten.First file unread.NoMemory) is = absurd cc
failed_call (unwritten.BadLine file line) is = is
failed_call (unwritten.Broken line rule) is = is
failed_call (unwritten.Refused (refusal.Words w)) is = is
failed_call (unwritten.Refused (refusal.Dumps stopped)) is = is
failed_call (unwritten.Refused refusal.NoMemory) is = is

failed_read : (u : Unwritten) → IsFailedCall (stop_of u) → IsFailedRead u
failed_read (unwritten.First file unread.Failed) is = is
failed_read (unwritten.First file unread.TooLong) is = is
failed_read (unwritten.First file unread.NoMemory) is = absurd is
failed_read (unwritten.BadLine file line) is = is
failed_read (unwritten.Broken line rule) is = is
failed_read (unwritten.Refused (refusal.Words w)) is = is
failed_read (unwritten.Refused (refusal.Dumps stopped)) is = is
failed_read (unwritten.Refused refusal.NoMemory) is = is

-- ---- what is made of the files

-- any basis will do where there is none
abbrev pub any_basis : Output → Basis
any_basis output = Seen None (nothing 0)

pub not_made : {H : Type 0} (settings : Settings) (h : shelf.Ghosts H) (u : Unwritten) (old new : H)
    → IsUnwrittenIn settings (known_in settings (h.files old)) (h.steady old) u → IsUnwrittenInReach settings (h.files old) (h.left new) u
    → BySample (sample_of settings.job) (IsFailedRead u → ⊥) ⊤ → OpensInOrder (named_by settings.job) (UnwrittenEnds u) (h.opens old) (h.opens new)
    → BySample (sample_of settings.job) (new ≡ old) ⊤ → ReadsShelf h (IsFailedRead u) old new → Asks inferring settings h any_basis (Err (stop_of u)) old new
not_made settings h u old new why reach calm opened stays shelf =
    record {
      made = tt;
      stopped = may_end settings (h.files old) (h.steady old) u why;
      first = is_of_first settings (h.files old) (h.steady old) u why;
      opens = tt;
      opens_stop = opens_at settings.job (UnwrittenEnds u) _ (h.opens old) (h.opens new) (ended_at u) opened;
      read_out = tt;
      reach = reads_to settings (h.files old) (h.left new) u reach calm;
      untouched = of_sample settings.job (new ≡ old) stays;
      reads_shelf = record { keeps = shelf.keeps; rose = λ f. shelf.rose (failed_read u f); quiet = λ not. shelf.quiet (λ f. not (failed_call u f)) };
    }

-- where the files are known, and where they aren't
pub basis_of : (settings : Settings) (known : Option Files) (output : Written) → IfSome known (λ files. IsOutputOf settings files output)
    → (outcome : Outcome) × ComesOfSome settings outcome × IsOutput settings outcome output
    → (basis : Basis) × GivesBasis settings known basis × IsOutput settings (outcome_of basis) output
basis_of settings None output is some = by some.0 some.1 some.2
  where
    by : (x : Outcome) → ComesOfSome settings x → IsOutput settings x output → (basis : Basis) × ComesOfSome settings (outcome_of basis) × IsOutput settings (outcome_of basis) output
    by (seen.Reads known taken) comes out = (Seen known taken, comes, out)
    by (seen.Joins file taken) comes out = (Joined file taken, comes, out)
    by (seen.Holds file) comes out = (Held file, comes, out)
    by (seen.Stops end) comes out = absurd out
    by (seen.Ends end) comes out = absurd out
basis_of settings (Some files) output is some = by is.0 is.1 is.2
  where
    by : (x : Outcome) → ComesTo settings files x → IsOutput settings x output → (basis : Basis) × ComesTo settings files (outcome_of basis) × IsOutput settings (outcome_of basis) output
    by (seen.Reads known taken) comes out = (Seen known taken, comes, out)
    by (seen.Joins file taken) comes out = (Joined file taken, comes, out)
    by (seen.Holds file) comes out = (Held file, comes, out)
    by (seen.Stops end) comes out = absurd out
    by (seen.Ends end) comes out = absurd out

pub was_made : {H : Type 0} (settings : Settings) (h : shelf.Ghosts H) (output : Output) (basis : Basis) (old new : H) → GivesBasis settings (known_in settings (h.files old)) basis
    → OpensInOrder (named_by settings.job) (λ end. end ≡ AllRead) (h.opens old) (h.opens new) → BySample (sample_of settings.job) ⊤ (IsAtEnd (h.left new))
    → BySample (sample_of settings.job) (new ≡ old) ⊤ → ReadsShelf h ⊥ old new → Asks inferring settings h (λ (o : Output). basis) (Ok output) old new
was_made settings h output basis old new gives opened at_end stays shelf =
    record {
      made = gives;
      stopped = tt;
      first = tt;
      opens = opens_at settings.job (λ end. end ≡ AllRead) _ (h.opens old) (h.opens new) (λ end is. is) opened;
      opens_stop = tt;
      read_out = of_files settings.job (IsAtEnd (h.left new)) at_end;
      reach = tt;
      untouched = of_sample settings.job (new ≡ old) stays;
      reads_shelf = shelf;
    }

-- ---- the answer

pub answers_stop : (u : Unwritten) (answer : Answer) → AnswersUnwritten u answer → (IsOfTheWords u → ⊥) → AnswersTo (stop_of u) answer
answers_stop (unwritten.First file unread.Failed) answer says not = says
answers_stop (unwritten.First file unread.TooLong) answer says not = says
answers_stop (unwritten.First file unread.NoMemory) answer says not = says
answers_stop (unwritten.BadLine file line) answer says not = says
answers_stop (unwritten.Broken line rule) answer says not = says
answers_stop (unwritten.Refused (refusal.Words w)) answer says not = absurd (not tt)
answers_stop (unwritten.Refused (refusal.Dumps stopped)) answer says not = says
answers_stop (unwritten.Refused refusal.NoMemory) answer says not = says

pub not_of_words : (settings : Settings) (known : Option Files) (steady : Type 0) (u : Unwritten) → IsUnwrittenIn settings known steady u → IsOfTheWords u → ⊥
not_of_words settings known steady (unwritten.First file why) is of = of
not_of_words settings known steady (unwritten.BadLine file line) is of = of
not_of_words settings known steady (unwritten.Broken line rule) is of = of
not_of_words settings known steady (unwritten.Refused (refusal.Words w)) is of = is
not_of_words settings known steady (unwritten.Refused (refusal.Dumps stopped)) is of = of
not_of_words settings known steady (unwritten.Refused refusal.NoMemory) is of = of
