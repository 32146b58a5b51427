-- How a run ends, by what it made of its files and what it answered.
use Rattle.std.proofs.Common.{◌≡◌, ◌≢◌, ◌⊎◌, ◌∙◌, inl, inr, ℕ, zero, suc, List, [], Option, None, Some, Ok, Err, Result, refl, sym, ap, subst, arith}
use Rattle.std.specs.Prelude.{IfSome, IsSomeAnd, option_map, string_bytes, ⊤}
use Rattle.std.specs.Io.KnownBytes.{append_known}
use Rattle.std.proofs.lemmas.List.{append-nil}
use Rattle.tor_io.specs.Contents.{GainsPrefix}
use Rattle.tor_words.specs.declared.refused.WordsRefused.{WordsRefused}
use Rattle.tor_words.specs.declared.refused.WordsRefused.TheVariants as refused
use Rattle.tor_words.specs.Refused.{HasUsageLine, IsUsage, SaysUsage}
use Rattle.tor_io.specs.declared.shelf.Shelf as shelf
use Rattle.tor_io.specs.declared.sink.Sink as sink
use Rattle.dump_read.specs.declared.error.DumpError.{DumpError}
use Rattle.dump_read.specs.declared.error.DumpError.TheVariants as error
use Rattle.dump_read.specs.Seen.{Malformed, Limit}
use Rattle.run_base.specs.declared.answer.Answer.{Answer}
use Rattle.run_base.specs.declared.status.Status.{Status}
use Rattle.run_base.specs.declared.status.Status.TheVariants as status
use Rattle.run_base.specs.declared.stop.Stop.{Stop}
use Rattle.run_base.specs.declared.stop.Stop.TheVariants as stop
use Rattle.run_base.specs.declared.whole_file.Unread.TheVariants as unread
use Rattle.run_base.specs.Answers.{AnswersStop, AnswersWith, IsNoMemory, note_in, note_text}
use Rattle.run_base.specs.Frames.{ReadsShelf, RunLeavesShelf, RunLeavesOut}
use Rattle.run_base.specs.Notes.{bad_line_note, broken_note, limit_note, malformed_note, plain_note, read_fault_note, too_long_note}
use Rattle.run_base.specs.Opening.{FilesEnd, Behind, Named, OpensInOrder}
use Rattle.run_base.specs.Programs.{First, Reads, Makes, TooLong, BadLine, Breaks, Lacks, Ends, Program, named_in}
use Rattle.run_base.specs.Promises.{Ending, Came, FailedRead, FailedWrite, OutOfMemory, EndsIn, IsFilesEnd, MayEnd, OfFirst, ReadsTo, RunEnds, Tells, Writes, status_at}
use Rattle.run_base.specs.Stopping.{AnswersTo, AnswersWords, Asks, IsFailedCall, IsOfFirst, WritesMade, ending_at, ending_of}
use Rattle.run_base.proofs.Openings.{opens_weaker}

-- ---- what is left of the shelf

leaves : {H : Type 0} (h : shelf.Ghosts H) (Failed : Type 0) (s : Status) (old new : H) → ReadsShelf h Failed old new → (s ≡ status.ReadFault → Failed)
    → (Failed → (s ≡ status.ReadFault) ⊎ (s ≡ status.NoMemory)) → RunLeavesShelf h s old new
leaves h Failed s old new reads failed only =
    record {
      keeps = reads.keeps;
      read_fault = λ is. reads.rose (failed is);
      no_lost_read = λ no_fault no_memory. reads.quiet (λ is. neither s no_fault no_memory (only is));
    }
  where
    neither : (s : Status) → s ≢ status.ReadFault → s ≢ status.NoMemory → (s ≡ status.ReadFault) ⊎ (s ≡ status.NoMemory) → ⊥
    neither s a b (inl is) = a is
    neither s a b (inr is) = b is

out_stays : {O : Type 0} (o : sink.Ghosts O) (s : Status) (out : O) → s ≢ status.WriteFault → RunLeavesOut o s out out
out_stays o s out not =
    record {
      later = omega (arith);
      write_fault = λ is. absurd (not is);
      no_lost_write = λ _. refl;
    }

-- ---- the file that is read first

of_first : (reads : Option Reads) (P Q : First → Type 0) → ((first : First) → P first → Q first) → OfFirst reads P → OfFirst reads Q
of_first None P Q weaker is = is
of_first (Some reads) P Q weaker is = inside reads.first is
  where
    inside : (first : Option First) → IsSomeAnd first P → IsSomeAnd first Q
    inside None is = is
    inside (Some first) is = weaker first is

memory_note : {answer : Answer} → IsNoMemory answer → note_in answer ≡ plain_note status.NoMemory
memory_note {answer = answer} is = subst (λ n. note_text answer.status n ≡ plain_note status.NoMemory) (sym is.1) (ap plain_note is.0)

-- ---- where nothing is made

module _ {S M H O : Type 0} (program : Program S M) (settings : S) (h : shelf.Ghosts H) (o : sink.Ghosts O) (answer : Answer) (old new : H) (out : O)
    (untouched : program.reads settings ≡ None → new ≡ old) where
  abbrev Opens : (FilesEnd → Type 0) → Type 0
  Opens Such = OpensInOrder (option_map named_in (program.reads settings)) Such (h.opens old) (h.opens new)

  abbrev Here : Type 0
  Here = EndsIn program settings h o answer.status (note_in answer) old new out out

  memory_out : (Failed : Type 0) (Such : FilesEnd → Type 0) → Opens Such → ReadsShelf h Failed old new → IsNoMemory answer → Here
  memory_out Failed Such opens reads is =
      record {
        ending = OutOfMemory;
        text = [];
        why = tt;
        status = is.0;
        tells = memory_note is;
        writes = refl;
        opens = opens_weaker (option_map named_in (program.reads settings)) Such (λ end. ⊤) (h.opens old) (h.opens new) (λ end such. tt) opens;
        reads = tt;
        untouched = untouched;
        leaves_shelf = leaves h Failed answer.status old new reads (λ fault. absurd (differ is.0 fault)) (λ failed. inr is.0);
        leaves_out = out_stays o answer.status out (λ fault. other is.0 fault);
      }
    where
      differ : {s : Status} → s ≡ status.NoMemory → s ≡ status.ReadFault → ⊥
      differ a b = let both : status.NoMemory ≡ status.ReadFault = sym a ∙ b in absurd cc

      other : {s : Status} → s ≡ status.NoMemory → s ≡ status.WriteFault → ⊥
      other a b = let both : status.NoMemory ≡ status.WriteFault = sym a ∙ b in absurd cc

  said : (ending : Ending M) (Failed : Type 0) (s : Status) (text : List ℕ) → MayEnd program settings (h.files old) (h.steady old) ending → Opens (IsFilesEnd program.end ending)
      → ReadsTo (program.reads settings) (h.files old) (h.left new) ending → ReadsShelf h Failed old new → s ≡ status_at program.status ending → Tells program settings ending [] text
      → Writes o ending [] out out → s ≢ status.WriteFault → (s ≡ status.ReadFault → Failed) → (Failed → s ≡ status.ReadFault) → (answer.status ≡ s) × (note_in answer ≡ text) → Here
  said ending Failed s text why opens reads shelf is tells writes not_write fails failed says =
      record {
        ending = ending;
        text = [];
        why = why;
        status = says.0 ∙ is;
        tells = subst (Tells program settings ending []) (sym says.1) tells;
        writes = writes;
        opens = opens;
        reads = reads;
        untouched = untouched;
        leaves_shelf = leaves h Failed answer.status old new shelf (λ fault. fails (sym says.0 ∙ fault)) (λ f. inl (says.0 ∙ failed f));
        leaves_out = out_stays o answer.status out (λ fault. not_write (sym says.0 ∙ fault));
      }

  ended : (ending : Ending M) (Failed : Type 0) (s : Status) (text : List ℕ) → MayEnd program settings (h.files old) (h.steady old) ending → Opens (IsFilesEnd program.end ending)
      → ReadsTo (program.reads settings) (h.files old) (h.left new) ending → ReadsShelf h Failed old new → s ≡ status_at program.status ending → Tells program settings ending [] text
      → Writes o ending [] out out → s ≢ status.WriteFault → (s ≡ status.ReadFault → Failed) → (Failed → s ≡ status.ReadFault) → AnswersWith s text answer → Here
  ended ending Failed s text why opens reads shelf is tells writes not_write fails failed (inl says) =
      said ending Failed s text why opens reads shelf is tells writes not_write fails failed says
  ended ending Failed s text why opens reads shelf is tells writes not_write fails failed (inr memory) = memory_out Failed (IsFilesEnd program.end ending) opens shelf memory

  at_dump : (dump : ℕ) (e : DumpError) → MayEnd program settings (h.files old) (h.steady old) (ending_at dump e) → Opens (IsFilesEnd program.end (ending_at {M = M} dump e))
      → ReadsTo (program.reads settings) (h.files old) (h.left new) (ending_at {M = M} dump e) → ReadsShelf h (e ≡ error.ReadFault) old new → AnswersStop dump e answer → Here
  at_dump dump (error.Malformed place fault) why opens reads shelf answers =
      ended (Came (Ends (Malformed place fault))) _ status.Malformed (malformed_note place fault) why opens reads shelf refl refl refl (λ e. absurd cc) (λ e. absurd cc) (λ e. absurd cc) answers
  at_dump dump (error.Limit kind) why opens reads shelf answers =
      ended (Came (Ends (Limit kind dump))) _ status.Limit (limit_note kind dump) why opens reads shelf refl refl refl (λ e. absurd cc) (λ e. absurd cc) (λ e. absurd cc) answers
  at_dump dump error.ReadFault why opens reads shelf answers =
      ended (FailedRead dump) _ status.ReadFault (read_fault_note dump) why opens reads shelf refl refl refl (λ e. absurd cc) (λ e. refl) (λ e. refl) answers
  at_dump dump error.NoMemory why opens reads shelf answers = memory_out _ (λ end. ⊤) opens shelf answers

  by_stop : (e : Stop) → MayEnd program settings (h.files old) (h.steady old) (ending_of e) → IsOfFirst (program.reads settings) e → Opens (IsFilesEnd program.end (ending_of {M = M} e))
      → ReadsTo (program.reads settings) (h.files old) (h.left new) (ending_of {M = M} e) → ReadsShelf h (IsFailedCall e) old new → AnswersTo e answer → Here
  by_stop (stop.First file unread.Failed) why first opens reads shelf answers =
      ended (FailedRead 0) _ status.ReadFault (read_fault_note 0) why opens reads shelf refl refl refl (λ e. absurd cc) (λ e. refl) (λ e. refl) answers
  by_stop (stop.First file unread.TooLong) why first opens reads shelf answers =
      ended (Came TooLong) _ status.Limit (too_long_note file) why opens reads shelf refl
      (of_first (program.reads settings) _ _ (λ f is. ap too_long_note (sym is)) first) refl (λ e. absurd cc) (λ e. absurd cc) (λ e. absurd cc) answers
  by_stop (stop.First file unread.NoMemory) why first opens reads shelf answers = memory_out _ (λ end. ⊤) opens shelf answers
  by_stop (stop.BadLine file line) why first opens reads shelf answers =
      ended (Came (BadLine line)) _ status.Malformed (bad_line_note file line) why opens reads shelf refl
      (of_first (program.reads settings) _ _ (λ f is. ap (λ k. bad_line_note k line) (sym is)) first) refl (λ e. absurd cc) (λ e. absurd cc) (λ e. absurd e) answers
  by_stop (stop.Broken line rule) why first opens reads shelf answers =
      ended (Came (Breaks line rule)) _ status.No (broken_note line rule) why opens reads shelf refl refl refl (λ e. absurd cc) (λ e. absurd cc) (λ e. absurd e) answers
  by_stop (stop.Lacks note) why first opens reads shelf answers =
      said (Came (Lacks (string_bytes note))) _ status.No (string_bytes note) why opens reads shelf refl refl refl (λ e. absurd cc) (λ e. absurd cc) (λ e. absurd e) answers
  by_stop (stop.Dumps stopped) why first opens reads shelf answers = at_dump stopped.dump stopped.error why opens reads shelf answers
  by_stop stop.NoMemory why first opens reads shelf answers = memory_out _ (λ end. ⊤) opens shelf answers

-- a run that stopped
pub stopped : {S M R H O : Type 0} (program : Program S M) (settings : S) (h : shelf.Ghosts H) (o : sink.Ghosts O) (made_of : R → M) (e : Stop) (answer : Answer) (old new : H) (out : O)
    → Asks program settings h made_of (Err e) old new → AnswersTo e answer → EndsIn program settings h o answer.status (note_in answer) old new out out
stopped program settings h o made_of e answer old new out asks answers =
    by_stop program settings h o answer old new out asks.untouched e asks.stopped asks.first asks.opens_stop asks.reach asks.reads_shelf answers

-- ---- where something is made

-- no text is written where a call on the shelf failed
abbrev pub IsWritten : {M : Type 0} → (M → Status) → M → Type 0
IsWritten of_made made = (of_made made ≢ status.ReadFault) × (of_made made ≢ status.WriteFault) × (of_made made ≢ status.NoMemory)

wrote_by : {S M R H O : Type 0} (program : Program S M) (settings : S) (h : shelf.Ghosts H) (o : sink.Ghosts O) (made_of : R → M) (r : R) (answer : Answer) (old new : H) (out after : O)
    → Asks program settings h made_of (Ok r) old new → WritesMade program settings o (made_of r) answer out after → IsWritten program.status (made_of r)
    → (answer.status ≡ program.status (made_of r)) ⊎ ((answer.status ≡ status.WriteFault) ⊎ (answer.status ≡ status.NoMemory))
    → EndsIn program settings h o answer.status (note_in answer) old new out after
wrote_by program settings h o made_of r answer old new out after asks writes is (inl done) =
    record {
      ending = Came (Makes (made_of r));
      text = writes.text;
      why = asks.made;
      status = done;
      tells = subst (λ n. program.IsText settings (made_of r) writes.text n) (sym (writes.done done).1) writes.is_text;
      writes = (writes.done done).0;
      opens = asks.opens;
      reads = asks.read_out;
      untouched = asks.untouched;
      leaves_shelf = leaves h _ answer.status old new asks.reads_shelf (λ fault. absurd (is.0 (sym done ∙ fault))) (λ f. absurd f);
      leaves_out = writes.leaves_out;
    }
wrote_by program settings h o made_of r answer old new out after asks writes is (inr (inl cut)) =
    record {
      ending = FailedWrite (made_of r);
      text = writes.text;
      why = asks.made;
      status = cut;
      tells = (writes.note, writes.is_text, (writes.cut_off cut).1);
      writes = (writes.cut_off cut).0;
      opens = asks.opens;
      reads = asks.read_out;
      untouched = asks.untouched;
      leaves_shelf = leaves h _ answer.status old new asks.reads_shelf (λ fault. let both : status.WriteFault ≡ status.ReadFault = sym cut ∙ fault in absurd cc) (λ f. absurd f);
      leaves_out = writes.leaves_out;
    }
wrote_by program settings h o made_of r answer old new out after asks writes is (inr (inr memory)) =
    record {
      ending = OutOfMemory;
      text = [];
      why = tt;
      status = memory;
      tells = (writes.nothing memory).1;
      writes = (writes.nothing memory).0;
      opens = opens_weaker (option_map named_in (program.reads settings)) _ (λ end. ⊤) (h.opens old) (h.opens new) (λ end such. tt) asks.opens;
      reads = tt;
      untouched = asks.untouched;
      leaves_shelf = leaves h _ answer.status old new asks.reads_shelf (λ fault. let both : status.NoMemory ≡ status.ReadFault = sym memory ∙ fault in absurd cc) (λ f. absurd f);
      leaves_out = writes.leaves_out;
    }

-- a run that made something of its files, and wrote it
pub wrote : {S M R H O : Type 0} (program : Program S M) (settings : S) (h : shelf.Ghosts H) (o : sink.Ghosts O) (made_of : R → M) (r : R) (answer : Answer) (old new : H) (out after : O)
    → Asks program settings h made_of (Ok r) old new → WritesMade program settings o (made_of r) answer out after → IsWritten program.status (made_of r)
    → EndsIn program settings h o answer.status (note_in answer) old new out after
wrote program settings h o made_of r answer old new out after asks writes is = wrote_by program settings h o made_of r answer old new out after asks writes is writes.ends

-- a text without a note of its own
pub writes_made : {S M O : Type 0} (program : Program S M) (settings : S) (o : sink.Ghosts O) (made : M) (answer : Answer) (old new : O) (text : List ℕ) (s : Status) → program.IsText settings made text []
    → plain_note s ≡ [] → program.status made ≡ s → (answer.status ≡ s) ⊎ ((answer.status ≡ status.WriteFault) ⊎ (answer.status ≡ status.NoMemory))
    → (answer.status ≡ s → o.held new ≡ append_known (o.held old) text) → (answer.status ≡ status.WriteFault → GainsPrefix (o.held old) (o.held new) text)
    → (answer.status ≡ status.NoMemory → new ≡ old) → note_in answer ≡ plain_note answer.status → RunLeavesOut o answer.status old new → WritesMade program settings o made answer old new
writes_made program settings o made answer old new text s is silent done ends whole part nothing note leaves =
    record {
      ends = by ends;
      text = text;
      note = [];
      is_text = is;
      done = λ e. (whole (e ∙ done), note ∙ ap plain_note (e ∙ done) ∙ silent);
      cut_off = λ e. (part e, note ∙ ap plain_note e);
      nothing = λ e. (nothing e, note ∙ ap plain_note e);
      leaves_out = leaves;
    }
  where
    by : (answer.status ≡ s) ⊎ ((answer.status ≡ status.WriteFault) ⊎ (answer.status ≡ status.NoMemory))
        → (answer.status ≡ program.status made) ⊎ ((answer.status ≡ status.WriteFault) ⊎ (answer.status ≡ status.NoMemory))
    by (inl e) = inl (e ∙ sym done)
    by (inr rest) = inr rest

-- ---- words that give no settings

module _ {S M H O : Type 0} (program : Program S M) (words : List (List ℕ)) (h : shelf.Ghosts H) (o : sink.Ghosts O) (answer : Answer) (on : H) (out : O) where
  abbrev There : Type 0
  There = RunEnds program words h o answer.status (note_in answer) on on out out

  none_opened : (named : Option Named) (before : List (List ℕ)) → OpensInOrder named (λ end. ⊤) before before
  none_opened None before = refl
  none_opened (Some named) before = (Behind 0, tt, sym (append-nil before))

  memory_for : IsNoMemory answer → (given : Option S) → program.given words ≡ given → There
  memory_for is None given =
      inl (given, record { tells = inr (is.0, memory_note is); shelf_stays = refl; out_stays = refl })
  memory_for is (Some settings) given =
      inr (
        settings,
        given,
        record {
          ending = OutOfMemory;
          text = [];
          why = tt;
          status = is.0;
          tells = memory_note is;
          writes = refl;
          opens = none_opened (option_map named_in (program.reads settings)) (h.opens on);
          reads = tt;
          untouched = λ _. refl;
          leaves_shelf = record {
            keeps = record { files = refl; steady = λ held. held; later = omega (arith) };
            read_fault = λ e. let both : status.NoMemory ≡ status.ReadFault = sym is.0 ∙ e in absurd cc;
            no_lost_read = λ _ _. refl;
          };
          leaves_out = out_stays o answer.status out (λ e. let both : status.NoMemory ≡ status.WriteFault = sym is.0 ∙ e in absurd cc);
        },
      )

  by_refusal : (w : WordsRefused) → (IsUsage w → program.given words ≡ None) → SaysUsage w → AnswersWords w answer → There
  by_refusal (refused.Usage text) none says answers =
      inl (none tt, record { tells = inl (answers.0, subst HasUsageLine (sym answers.1) says); shelf_stays = refl; out_stays = refl })
  by_refusal refused.NoMemory none says answers = memory_for answers (program.given words) refl

-- a run whose words were refused
pub refused_words : {S M H O : Type 0} (program : Program S M) (words : List (List ℕ)) (h : shelf.Ghosts H) (o : sink.Ghosts O) (w : WordsRefused) (answer : Answer) (on : H) (out : O)
    → (IsUsage w → program.given words ≡ None) → SaysUsage w → AnswersWords w answer → RunEnds program words h o answer.status (note_in answer) on on out out
refused_words program words h o w answer on out none says answers = by_refusal program words h o answer on out w none says answers
