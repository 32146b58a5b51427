-- What `torgrade` is to its run: a file of known relationships and dumps come to these and to what the dumps give, and a grading is
-- written.
use Rattle.std.specs.Prelude.{◌≡◌, [], ℕ, zero, suc, List, Option, Some, Ok, Err, ⊤}
use Rattle.tor_arena.specs.Limits.{max_paths}
use Rattle.tor_io.specs.Contents.{Files}
use Rattle.dump_read.specs.declared.taking.Taken.{Taken}
use Rattle.path_clean.specs.declared.cleaned.Sets.TheVariants.{Cut}
use Rattle.dump_read.specs.Wanted.{all_wanted}
use Rattle.as_rel.specs.declared.line.RelLine.{RelLine}
use Rattle.as_rel.specs.Limits.{max_rel}
use Rattle.as_rel.specs.Serial.{rel_in}
use Rattle.tor_words.specs.declared.grade_settings.GradeSettings.{GradeSettings}
use Rattle.tor_words.specs.GradeGiven.{grade_settings_given}
use Rattle.run_base.specs.declared.notes.FirstFile.TheVariants.{Rel}
use Rattle.run_base.specs.declared.status.Status.TheVariants.{Done}
use Rattle.run_base.specs.Opening.{AllRead}
use Rattle.run_base.specs.Programs.{Reads, Outcome, Makes, NoFile, TooLong, BadLine, Breaks, Lacks, Ends, Program}
use Rattle.run_base.specs.Programs.{DumpsEndAt, DumpsGive, HasOctets, IsAbsent, IsTooLong, ReadBefore}
use Rattle.run_base.specs.Reading.{nothing}
use Rattle.torgrade_run.specs.declared.asking.Graded.{Graded}
use Rattle.torgrade_run.specs.declared.cones.Cone.{Cone}
use Rattle.torgrade_run.specs.GradeText.{IsConeAsked, grading_text}

-- what a grading is made of: relationships that are known, and what dumps gave
pub record Basis : Type 0 where
  pub rel : List RelLine
  pub taken : Taken

abbrev pub basis_of : Graded → Basis
basis_of graded = record { rel = graded.known.rel; taken = graded.taken }

abbrev pub text_of : Graded → List ℕ
text_of graded = grading_text graded.known.rel graded.taken.table.rows graded.known.cone

-- the file of known relationships, at most 2 ^ 28 octets, and then the dumps
abbrev pub reads_in : GradeSettings → Option Reads
reads_in settings = Some (record { first = Some (record { name = settings.rel; most = max_rel; kind = Rel }); dumps = settings.dumps })

-- that file, as far as it is known, says these relationships
abbrev pub SaysRel : GradeSettings → Option Files → List RelLine → Type 0
SaysRel settings known rel = (bytes : List ℕ) × HasOctets known settings.rel max_rel bytes × (rel_in bytes ≡ Ok rel)

-- what the settings and the files come to: sets are cut, and the limit on paths is the greatest
abbrev pub GivesGrading : GradeSettings → Option Files → Outcome Basis → Type 0
GivesGrading settings known (Makes basis) =
    SaysRel settings known basis.rel × DumpsGive known (all_wanted Cut) settings.dumps (nothing max_paths) basis.taken
GivesGrading settings known NoFile = IsAbsent known settings.rel
GivesGrading settings known TooLong = IsTooLong known settings.rel max_rel
GivesGrading settings known (BadLine line) =
    (bytes : List ℕ) × HasOctets known settings.rel max_rel bytes × (rel_in bytes ≡ Err line)
GivesGrading settings known (Breaks line rule) = ⊥
GivesGrading settings known (Lacks note) = ⊥
GivesGrading settings known (Ends end) =
    (rel : List RelLine) × SaysRel settings known rel × DumpsEndAt known (all_wanted Cut) settings.dumps (nothing max_paths) end

-- the relationships are read before any dump, and these in their order
abbrev pub IsBefore : GradeSettings → Option Files → ℕ → Type 0
IsBefore settings known zero = ⊤
IsBefore settings known (suc n) =
    (rel : List RelLine) × SaysRel settings known rel × ReadBefore known (all_wanted Cut) settings.dumps (nothing max_paths) (suc n)

-- the paths of the dumps, each with its grade under the known relationships, and the cone that is asked for; nothing is noted
abbrev pub IsGrading : GradeSettings → Basis → (text note : List ℕ) → Type 0
IsGrading settings basis text note =
    (cone : Option Cone) × IsConeAsked basis.rel settings.cone cone × (text ≡ grading_text basis.rel basis.taken.table.rows cone)
    × (note ≡ [])

abbrev pub grading : Program GradeSettings Basis
grading = record {
  given = grade_settings_given;
  reads = reads_in;
  Gives = GivesGrading;
  Before = IsBefore;
  status = λ basis. Done;
  end = λ basis. AllRead;
  IsText = IsGrading;
}
