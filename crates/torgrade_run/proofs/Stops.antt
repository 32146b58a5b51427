-- What a grading makes of its files, by where it stops.
use Rattle.std.proofs.Common.{◌≡◌, ◌<◌, ◌≤◌, ◌++◌, ◌∷◌, ℕ, List, [], length, take, Option, Some, Ok, Err, refl, arith}
use Rattle.std.specs.Prelude.{IfSome}
use Rattle.std.specs.Io.KnownBytes.{IsAtEnd}
use Rattle.tor_arena.specs.Limits.{max_paths}
use Rattle.tor_io.specs.Contents.{Files}
use Rattle.tor_io.specs.declared.shelf.Shelf as shelf
use Rattle.path_clean.specs.declared.cleaned.Sets.TheVariants.{Cut}
use Rattle.dump_read.specs.Wanted.{all_wanted}
use Rattle.dump_read.specs.declared.taking.Taken.{Taken}
use Rattle.as_rel.specs.declared.line.RelLine.{RelLine}
use Rattle.as_rel.specs.Limits.{max_rel}
use Rattle.as_rel.specs.Serial.{rel_in}
use Rattle.tor_words.specs.declared.grade_settings.GradeSettings.{GradeSettings}
use Rattle.run_base.specs.declared.notes.FirstFile.TheVariants.{Rel}
use Rattle.run_base.specs.declared.reading.Stopped.{Stopped}
use Rattle.run_base.specs.declared.stop.Stop.TheVariants as stop
use Rattle.run_base.specs.Programs.{First, Reads, HasOctets}
use Rattle.run_base.specs.Reading.{nothing}
use Rattle.run_base.specs.Stopping.{Asks, ReadsDumps}
use Rattle.run_base.proofs.Askings.{ReadsFirst, all_made, dump_end, dumps_stopped, first_stopped}
use Rattle.run_base.proofs.Dumps.{dumps_give_as, reach_as_before, stops_as_before}
use Rattle.torgrade_run.specs.declared.asking.Graded.{Graded}
use Rattle.torgrade_run.specs.Grading.{basis_of, grading}

abbrev pub rel_file : GradeSettings → First
rel_file settings = record { name = settings.rel; most = max_rel; kind = Rel }

abbrev pub its_reads : GradeSettings → Reads
its_reads settings = record { first = Some (rel_file settings); dumps = settings.dumps }

module _ {H : Type 0} (settings : GradeSettings) (h : shelf.Ghosts H) (old mid : H) (whole : ReadsFirst h (its_reads settings) old mid) (bytes : List ℕ)
    (octets : HasOctets (h.files old) settings.rel max_rel bytes) (at_end : IsAtEnd (h.left mid)) where
  pub bad_line : (line : ℕ) → rel_in bytes ≡ Err line → Asks grading settings h basis_of (Err (stop.BadLine Rel line)) old mid
  bad_line line is =
      first_stopped grading settings (its_reads settings) refl h basis_of (rel_file settings) (stop.BadLine Rel line) old mid refl whole (bytes, octets, is) refl refl at_end (λ f. f)

  pub memory : Asks grading settings h basis_of (Err stop.NoMemory) old mid
  memory = first_stopped grading settings (its_reads settings) refl h basis_of (rel_file settings) stop.NoMemory old mid refl whole tt tt tt tt (λ f. f)

  pub dumps_end : (rel : List RelLine) (e : Stopped) (new : H) → rel_in bytes ≡ Ok rel → ReadsDumps h (all_wanted Cut) settings.dumps (nothing max_paths) (Err e) mid new
      → Asks grading settings h basis_of (Err (stop.Dumps e)) old new
  dumps_end rel e new is read =
      dumps_stopped grading settings (its_reads settings) refl h basis_of e old mid new whole
      (dump_end grading settings (its_reads settings) (h.files old) (h.steady old) (all_wanted Cut) (nothing max_paths) e.dump e.error refl
      (stops_as_before (h.files old) (h.files mid) (h.steady old) (h.steady mid) (all_wanted Cut) settings.dumps (nothing max_paths) e.dump e.error whole.files whole.steady read.stopped)
      (λ end ends. (rel, (bytes, octets, is), ends)) (λ n before. (rel, (bytes, octets, is), before)))
      read.opens_stop (reach_as_before (h.files mid) (h.files old) settings.dumps (h.left new) e.dump e.error whole.files read.reach) read.reads_shelf

  pub all_read : (graded : Graded) (new : H) → 0 < length settings.dumps → rel_in bytes ≡ Ok graded.known.rel → ReadsDumps h (all_wanted Cut) settings.dumps (nothing max_paths) (Ok graded.taken) mid new
      → Asks grading settings h basis_of (Ok graded) old new
  all_read graded new some is read =
      all_made grading settings (its_reads settings) refl h basis_of graded ⊥ old mid new whole
      ((bytes, octets, is), dumps_give_as (h.files old) (h.files mid) (all_wanted Cut) settings.dumps (nothing max_paths) graded.taken whole.files read.given) refl
      read.opens (read.read_out some) read.reads_shelf (λ f. f)
