-- What a run that is done has written.
use Rattle.std.proofs.Common.{◌≡◌, ◌⊎◌, ◌∙◌, inl, inr, ℕ, List, Option, Some, None, refl, sym}
use Rattle.std.specs.Prelude.{IfSome}
use Rattle.std.specs.Io.KnownBytes.{append_known}
use Rattle.tor_io.specs.Contents.{Files}
use Rattle.tor_io.specs.declared.shelf.Shelf as shelf
use Rattle.tor_io.specs.declared.sink.Sink as sink
use Rattle.dump_read.specs.Seen.{DumpsEnd, Absent, Malformed, Limit}
use Rattle.tor_words.specs.declared.settings.Settings.{Settings}
use Rattle.tor_words.specs.Given.{settings_given}
use Rattle.tor_words.specs.Refused.{HasUsageLine}
use Rattle.run_base.specs.declared.status.Status.{Status}
use Rattle.run_base.specs.declared.status.Status.TheVariants as status
use Rattle.run_base.specs.Notes.{plain_note}
use Rattle.run_base.specs.Programs.{Makes, NoFile, TooLong, BadLine, Breaks, Lacks, Ends, status_of_end}
use Rattle.run_base.specs.Promises.{Ending, Came, FailedRead, FailedWrite, OutOfMemory, MayEnd, RunEnds, Tells, Writes, status_at}
use Rattle.tor_output.specs.Inferring.{Basis, GivesBasis, inferring, outcome_of}
use Rattle.tor_output.specs.Output.{GainsOutput, IsOutput}
use Rattle.tor_output.specs.Sampling.{known_by, known_in}
use Rattle.tor_output.proofs.Sampled.{known-given}

end_not_done : {X : Type 0} (e : DumpsEnd) → status_of_end e ≡ status.Done → X
end_not_done (Absent dump) e = absurd cc
end_not_done (Malformed place fault) e = absurd cc
end_not_done (Limit kind dump) e = absurd cc

module _ {O : Type 0} (words : List (List ℕ)) (settings : Settings) (given : settings_given words ≡ Some settings) (o : sink.Ghosts O) (text note : List ℕ) (out after : O) where
  abbrev Gains : Files → Type 0
  Gains files = GainsOutput words files (o.held out) (o.held after) note

  made : (known : Option Files) (basis : Basis) → GivesBasis settings known basis → IsOutput settings (outcome_of basis) (record { text = text; note = note })
      → o.held after ≡ append_known (o.held out) text → IfSome known Gains
  made None basis gives is gained = tt
  made (Some files) basis gives is gained =
      record {
        output = record { text = text; note = note };
        asked = record { settings = settings; given = given; outcome = outcome_of basis; comes = gives; written = is };
        gained = gained;
        noted = refl;
      }

  by_ending : (known : Option Files) (steady : Type 0) (ending : Ending Basis) → MayEnd inferring settings known steady ending → status_at inferring.status ending ≡ status.Done
      → Tells inferring settings ending text note → Writes o ending text out after → IfSome (known_in settings known) Gains
  by_ending known steady (Came (Makes basis)) why is tells writes = made (known_in settings known) basis why tells writes
  by_ending known steady (Came NoFile) why is tells writes = absurd cc
  by_ending known steady (Came TooLong) why is tells writes = absurd cc
  by_ending known steady (Came (BadLine line)) why is tells writes = absurd cc
  by_ending known steady (Came (Breaks line rule)) why is tells writes = absurd cc
  by_ending known steady (Came (Lacks reason)) why is tells writes = absurd why
  by_ending known steady (Came (Ends end)) why is tells writes = end_not_done end is
  by_ending known steady (FailedRead n) why is tells writes = absurd cc
  by_ending known steady (FailedWrite basis) why is tells writes = absurd cc
  by_ending known steady OutOfMemory why is tells writes = absurd cc

refused_not : {X : Type 0} (s : Status) (note : List ℕ) → ((s ≡ status.Usage) × HasUsageLine note) ⊎ ((s ≡ status.NoMemory) × (note ≡ plain_note status.NoMemory)) → s ≡ status.Done → X
refused_not s note (inl is) done = let both : status.Usage ≡ status.Done = sym is.0 ∙ done in absurd cc
refused_not s note (inr is) done = let both : status.NoMemory ≡ status.Done = sym is.0 ∙ done in absurd cc

pub gains : {H O : Type 0} (words : List (List ℕ)) (h : shelf.Ghosts H) (o : sink.Ghosts O) (s : Status) (note : List ℕ) (old new : H) (out after : O)
    → RunEnds inferring words h o s note old new out after → s ≡ status.Done
    → IfSome (known_by words (h.files old)) (λ files. GainsOutput words files (o.held out) (o.held after) note)
gains words h o s note old new out after (inl refused) is = refused_not s note refused.1.tells is
gains words h o s note old new out after (inr (settings, given, ends)) is =
    known-given words settings (h.files old) (λ k. IfSome k (λ files. GainsOutput words files (o.held out) (o.held after) note)) given
    (by_ending words settings given o ends.text note out after (h.files old) (h.steady old) ends.ending ends.why (sym ends.status ∙ is) ends.tells ends.writes)
