-- How a run ends where relationships are known.
use Rattle.std.proofs.Common.{◌≡◌, ◌⊎◌, ◌∙◌, inl, inr, ℕ, List, Ok, Err, refl, sym, ap, subst, arith}
use Rattle.std.specs.Prelude.{OnOk, OnErr, Result}
use Rattle.std.specs.Io.KnownBytes.{append_known}
use Rattle.tor_io.specs.Contents.{GainsPrefix}
use Rattle.tor_io.specs.Counts.{HasCause}
use Rattle.tor_io.specs.declared.shelf.Shelf as shelf
use Rattle.tor_io.specs.declared.sink.Sink as sink
use Rattle.tor_words.specs.declared.rank_settings.RankSettings.{RankSettings}
use Rattle.run_base.specs.declared.answer.Answer.{Answer}
use Rattle.run_base.specs.declared.answer.Note.TheVariants.{Plain}
use Rattle.run_base.specs.declared.status.Status.TheVariants.{Done, WriteFault, NoMemory}
use Rattle.run_base.specs.declared.stop.Stop.TheVariants as stop
use Rattle.run_base.specs.Answers.{note_in, note_text}
use Rattle.run_base.specs.Notes.{plain_note}
use Rattle.run_base.specs.Promises.{EndsIn}
use Rattle.run_base.specs.Stopping.{Asks}
use Rattle.run_base.proofs.Endings.{stopped, wrote, writes_made}
use Rattle.torrank_run.specs.declared.asking.Ranked.{Ranked}
use Rattle.torrank_run.specs.Ranking.{IsTaskText, ranking, known_rel}
use Rattle.torrank_run.specs.Written.{WritesNone, WritesPrefix, WritesSuch, WritesWhole}

-- ---- one answer

module _ {O T E : Type 0} (o : sink.Ghosts O) (IsText : List ℕ → Type 0) (answer : Answer) (old new : O) (text : List ℕ) (is : IsText text) where
  -- a text was written whole, or a prefix of it
  pub wrote_such : (r : Result T E) → OnOk r (o.held new ≡ append_known (o.held old) text) → OnErr r (GainsPrefix (o.held old) (o.held new) text)
      → HasCause (o.faults old) (o.faults new) r → OnOk r (answer.status ≡ Done) → OnErr r (answer.status ≡ WriteFault) → answer.note ≡ Plain
      → WritesSuch o IsText answer old new
  wrote_such (Ok x) whole prefix cause done cut note =
      record {
        ends = inl (record { status = done; text = text; is_text = is; whole = whole });
        note = note;
        leaves_out = record {
          later = cause.later;
          write_fault = λ fault. let both : Done ≡ WriteFault = sym done ∙ fault in absurd cc;
          no_lost_write = λ _. cause.quiet;
        };
      }
  wrote_such (Err e) whole prefix cause done cut note =
      record {
        ends = inr (inl (record { status = cut; text = text; is_text = is; prefix = prefix }));
        note = note;
        leaves_out = record { later = cause.later; write_fault = λ _. cause.failed; no_lost_write = λ other. absurd (other cut) };
      }

-- memory ran out before
pub wrote_none : {O : Type 0} (o : sink.Ghosts O) (IsText : List ℕ → Type 0) (answer : Answer) (out : O) → answer.status ≡ NoMemory → answer.note ≡ Plain
    → WritesSuch o IsText answer out out
wrote_none o IsText answer out memory note =
    record {
      ends = inr (inr (record { status = memory; same = refl }));
      note = note;
      leaves_out = record {
        later = omega arith;
        write_fault = λ fault. let both : NoMemory ≡ WriteFault = sym memory ∙ fault in absurd cc;
        no_lost_write = λ _. refl;
      };
    }

-- ---- the run

module _ {H O : Type 0} (settings : RankSettings) (h : shelf.Ghosts H) (o : sink.Ghosts O) (ranked : Ranked) (answer : Answer) (old new : H) (out after : O)
    (asks : Asks ranking settings h known_rel (Ok ranked) old new) (writes : WritesSuch o (IsTaskText settings.task ranked.rel) answer out after) where
  -- memory may run out whatever is known
  no_memory : Asks ranking settings h known_rel (Err stop.NoMemory) old new
  no_memory = record {
    made = tt;
    stopped = tt;
    first = tt;
    opens = tt;
    opens_stop = (asks.opens.0, tt, asks.opens.2);
    read_out = tt;
    reach = tt;
    untouched = asks.untouched;
    reads_shelf = record { keeps = asks.reads_shelf.keeps; rose = λ f. absurd f; quiet = λ _. asks.reads_shelf.quiet (λ f. f) };
  }

  noted : note_in answer ≡ plain_note answer.status
  noted = ap (note_text answer.status) writes.note

  abbrev Here : O → Type 0
  Here last = EndsIn ranking settings h o answer.status (note_in answer) old new out last

  by : WritesWhole o (IsTaskText settings.task ranked.rel) answer out after ⊎ (WritesPrefix o (IsTaskText settings.task ranked.rel) answer out after ⊎ WritesNone answer out after) → Here after
  by (inl w) =
      wrote ranking settings h o known_rel ranked answer old new out after asks
      (writes_made ranking settings o ranked.rel answer out after w.text Done (w.is_text, refl) refl refl (inl w.status) (λ _. w.whole)
      (λ is. let both : Done ≡ WriteFault = sym w.status ∙ is in absurd cc) (λ is. let both : Done ≡ NoMemory = sym w.status ∙ is in absurd cc)
      noted writes.leaves_out)
      (λ e. absurd cc, λ e. absurd cc, λ e. absurd cc)
  by (inr (inl w)) =
      wrote ranking settings h o known_rel ranked answer old new out after asks
      (writes_made ranking settings o ranked.rel answer out after w.text Done (w.is_text, refl) refl refl (inr (inl w.status))
      (λ is. let both : WriteFault ≡ Done = sym w.status ∙ is in absurd cc) (λ _. w.prefix) (λ is. let both : WriteFault ≡ NoMemory = sym w.status ∙ is in absurd cc)
      noted writes.leaves_out)
      (λ e. absurd cc, λ e. absurd cc, λ e. absurd cc)
  by (inr (inr w)) =
      subst Here (sym w.same)
      (stopped ranking settings h o known_rel stop.NoMemory answer old new out no_memory (w.status, writes.note))

  pub ended : Here after
  ended = by writes.ends
