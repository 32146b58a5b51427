-- The settings and the files of a grading come to one outcome at most.
use Rattle.std.proofs.Common.{◌≡◌, ℕ, List, Option, Some, None, Result, Ok, Err, refl, ap, ap₂, ◌∙◌}
use Rattle.tor_arena.specs.Limits.{max_paths}
use Rattle.tor_io.specs.Contents.{Files}
use Rattle.path_clean.specs.declared.cleaned.Sets.TheVariants.{Cut}
use Rattle.dump_read.specs.Wanted.{all_wanted}
use Rattle.dump_read.specs.declared.taking.Taken.{Taken}
use Rattle.dump_read.specs.Seen.{DumpsEnd}
use Rattle.as_rel.specs.declared.line.RelLine.{RelLine}
use Rattle.as_rel.specs.Limits.{max_rel}
use Rattle.as_rel.specs.Serial.{rel_in}
use Rattle.tor_words.specs.declared.grade_settings.GradeSettings.{GradeSettings}
use Rattle.run_base.specs.Programs.{Outcome, Makes, NoFile, TooLong, BadLine, Breaks, Lacks, Ends, OneOutcome, HasOctets}
use Rattle.run_base.specs.Reading.{nothing, seen_from}
use Rattle.run_base.specs.WholeFile.{IsLongFile}
use Rattle.run_base.proofs.Values as values
use Rattle.torgrade_run.specs.Grading.{Basis, GivesGrading, SaysRel, grading}

module _ (settings : GradeSettings) (files : Files) where
  abbrev Has : List ℕ → Type 0
  Has bytes = HasOctets (Some files) settings.rel max_rel bytes

  abbrev Says : List RelLine → Type 0
  Says rel = SaysRel settings (Some files) rel

  abbrev seen : Result Taken DumpsEnd
  seen = seen_from (all_wanted Cut) 1 (nothing max_paths) settings.dumps files

  not_there : {X : Type 0} (bytes : List ℕ) → Has bytes → files settings.rel ≡ None → X
  not_there bytes is none = values.some_not_none (files settings.rel) bytes is.there none

  not_long : {X : Type 0} (bytes : List ℕ) → Has bytes → IsLongFile max_rel (files settings.rel) → X
  not_long bytes is long = values.not_long max_rel (files settings.rel) bytes is.there is.short long

  none_long : {X : Type 0} → files settings.rel ≡ None → IsLongFile max_rel (files settings.rel) → X
  none_long is long = values.none_long max_rel (files settings.rel) is long

  -- the octets of the file are those of the other
  moved : (a b : List ℕ) (r : Result (List RelLine) ℕ) → Has a → Has b → rel_in b ≡ r → rel_in a ≡ r
  moved a b r one other is = ap rel_in (values.some_is (files settings.rel) a b one.there other.there) ∙ is

  same_rel : (a b : List RelLine) → Says a → Says b → a ≡ b
  same_rel a b one other = values.ok_is (rel_in one.0) a b one.2 (moved one.0 other.0 (Ok b) one.1 other.1 other.2)

  not_bad : {X : Type 0} (rel : List RelLine) (line : ℕ) → Says rel → (bytes : List ℕ) × Has bytes × (rel_in bytes ≡ Err line) → X
  not_bad rel line one other = values.ok_not_err (rel_in one.0) rel line one.2 (moved one.0 other.0 (Err line) one.1 other.1 other.2)

  same : (x y : Outcome Basis) → GivesGrading settings (Some files) x → GivesGrading settings (Some files) y → x ≡ y
  same (Makes a) (Makes b) one other =
      ap₂ (λ rel taken. Makes (record { rel = rel; taken = taken })) (same_rel a.rel b.rel one.0 other.0) (values.ok_is seen a.taken b.taken one.1 other.1)
  same (Makes a) NoFile one other = not_there one.0.0 one.0.1 other
  same (Makes a) TooLong one other = not_long one.0.0 one.0.1 other
  same (Makes a) (BadLine line) one other = not_bad a.rel line one.0 other
  same (Makes a) (Breaks line rule) one other = absurd other
  same (Makes a) (Lacks note) one other = absurd other
  same (Makes a) (Ends end) one other = values.ok_not_err seen a.taken end one.1 other.2
  same NoFile (Makes b) one other = not_there other.0.0 other.0.1 one
  same NoFile NoFile one other = refl
  same NoFile TooLong one other = none_long one other
  same NoFile (BadLine line) one other = not_there other.0 other.1 one
  same NoFile (Breaks line rule) one other = absurd other
  same NoFile (Lacks note) one other = absurd other
  same NoFile (Ends end) one other = not_there other.1.0 other.1.1 one
  same TooLong (Makes b) one other = not_long other.0.0 other.0.1 one
  same TooLong NoFile one other = none_long other one
  same TooLong TooLong one other = refl
  same TooLong (BadLine line) one other = not_long other.0 other.1 one
  same TooLong (Breaks line rule) one other = absurd other
  same TooLong (Lacks note) one other = absurd other
  same TooLong (Ends end) one other = not_long other.1.0 other.1.1 one
  same (BadLine line) (Makes b) one other = not_bad b.rel line other.0 one
  same (BadLine line) NoFile one other = not_there one.0 one.1 other
  same (BadLine line) TooLong one other = not_long one.0 one.1 other
  same (BadLine line) (BadLine line') one other = ap BadLine (values.err_is (rel_in one.0) line line' one.2 (moved one.0 other.0 (Err line') one.1 other.1 other.2))
  same (BadLine line) (Breaks l rule) one other = absurd other
  same (BadLine line) (Lacks note) one other = absurd other
  same (BadLine line) (Ends end) one other = not_bad other.0 line other.1 one
  same (Breaks line rule) y one other = absurd one
  same (Lacks note) y one other = absurd one
  same (Ends end) (Makes b) one other = values.ok_not_err seen b.taken end other.1 one.2
  same (Ends end) NoFile one other = not_there one.1.0 one.1.1 other
  same (Ends end) TooLong one other = not_long one.1.0 one.1.1 other
  same (Ends end) (BadLine line) one other = not_bad one.0 line one.1 other
  same (Ends end) (Breaks line rule) one other = absurd other
  same (Ends end) (Lacks note) one other = absurd other
  same (Ends end) (Ends end') one other = ap Ends (values.err_is seen end end' one.2 other.2)

pub one_outcome : OneOutcome grading
one_outcome settings files x y one other = same settings files x y one other
