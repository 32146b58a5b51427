-- What `torcheck` is to its run: a result file and dumps come to a verdict, which is written.
use Rattle.dump_read.specs.Wanted.{all_wanted}
use Rattle.std.specs.Prelude.{◌≡◌, ◌∷◌, [], ℕ, zero, suc, Bool, true, false, List, Option, Some, ⊤}
use Rattle.tor_arena.specs.Limits.{max_paths}
use Rattle.tor_io.specs.Contents.{Files}
use Rattle.dump_read.specs.declared.taking.Taken.{Taken}
use Rattle.result_text.specs.declared.file.ResultFile.{ResultFile}
use Rattle.result_rules.specs.declared.verdict.Verdict.{Verdict}
use Rattle.result_rules.specs.declared.verdict.Verdict.TheVariants.{Yes, No}
use Rattle.result_rules.specs.Against.{JudgesAgainst}
use Rattle.any_order.specs.AnyOrder.{JudgesInAnyOrder}
use Rattle.tor_words.specs.declared.check_settings.CheckSettings.{CheckSettings}
use Rattle.tor_words.specs.CheckGiven.{check_settings_given}
use Rattle.run_base.specs.declared.notes.FirstFile.TheVariants.{Result}
use Rattle.run_base.specs.declared.status.Status.{Status}
use Rattle.run_base.specs.declared.status.Status.TheVariants as status
use Rattle.run_base.specs.Opening.{FilesEnd, AllRead, EndedAt}
use Rattle.run_base.specs.Programs.{Reads, Outcome, Makes, NoFile, TooLong, BadLine, Breaks, Lacks, Ends, Program}
use Rattle.run_base.specs.Programs.{DumpsEndAt, DumpsGive, HasOctets, IsAbsent, IsTooLong, ReadBefore}
use Rattle.run_base.specs.Reading.{nothing}
use Rattle.result_file.specs.Limits.{max_result}
use Rattle.result_file.specs.Ruled.{BreaksRule, IsAccepted}
use Rattle.result_file.specs.VerdictText.{verdict_text}
use Rattle.torcheck_run.specs.declared.judging.Judged.{Judged}
use Rattle.torcheck_run.specs.declared.judging.Judged.TheVariants.{ByFile, ByDumps}

-- ---- the verdict

abbrev pub verdict_in : Judged → Verdict
verdict_in (ByFile line rule) = No line rule
verdict_in (ByDumps verdict) = verdict

-- the verdict on the agreement of a result with what dumps gave: as they stand, or in any order
abbrev pub JudgesTaken : (any_order : Bool) → ResultFile → Taken → Verdict → Type 0
JudgesTaken false file taken verdict = JudgesAgainst file taken.table.rows taken.counts verdict
JudgesTaken true file taken verdict = JudgesInAnyOrder file taken.table.rows taken.counts verdict

-- yes where no dump is named. Else the dumps, read with the sets of the result, give paths and counts, and the verdict is on the agreement
-- with these
abbrev pub JudgesDumps : (any_order : Bool) → Option Files → ResultFile → List (List ℕ) → Verdict → Type 0
JudgesDumps any_order known file [] verdict = verdict ≡ Yes
JudgesDumps any_order known file (dump ∷ dumps) verdict =
    (taken : Taken) × DumpsGive known (all_wanted file.sets) (dump ∷ dumps) (nothing max_paths) taken × JudgesTaken any_order file taken verdict

-- the result file, as far as it is known, holds this result, which meets the rules 0 to 10
abbrev pub Holds : CheckSettings → Option Files → ResultFile → Type 0
Holds settings known file = (bytes : List ℕ) × HasOctets known settings.result max_result bytes × IsAccepted file bytes

-- a rule of 0 to 10 is broken; or all of these are met, and rule 11 decides
abbrev pub GivesVerdict : CheckSettings → Option Files → Judged → Type 0
GivesVerdict settings known (ByFile line rule) =
    (bytes : List ℕ) × HasOctets known settings.result max_result bytes × BreaksRule bytes (No line rule)
GivesVerdict settings known (ByDumps verdict) =
    (file : ResultFile) × Holds settings known file × JudgesDumps settings.any_order known file settings.dumps verdict

-- ---- the program

-- the result file, at most 2 ^ 31 octets, and then the dumps
abbrev pub reads_in : CheckSettings → Option Reads
reads_in settings =
    Some (record { first = Some (record { name = settings.result; most = max_result; kind = Result }); dumps = settings.dumps })

-- what the settings and the files come to
abbrev pub GivesOutcome : CheckSettings → Option Files → Outcome Judged → Type 0
GivesOutcome settings known (Makes judged) = GivesVerdict settings known judged
GivesOutcome settings known NoFile = IsAbsent known settings.result
GivesOutcome settings known TooLong = IsTooLong known settings.result max_result
GivesOutcome settings known (BadLine line) = ⊥
GivesOutcome settings known (Breaks line rule) = ⊥
GivesOutcome settings known (Lacks note) = ⊥
GivesOutcome settings known (Ends end) =
    (file : ResultFile) × Holds settings known file × DumpsEndAt known (all_wanted file.sets) settings.dumps (nothing max_paths) end

-- the result is judged before any dump is opened, and these are read in their order
abbrev pub IsBefore : CheckSettings → Option Files → ℕ → Type 0
IsBefore settings known zero = ⊤
IsBefore settings known (suc n) =
    (file : ResultFile) × Holds settings known file × ReadBefore known (all_wanted file.sets) settings.dumps (nothing max_paths) (suc n)

-- a no by the result file comes before any dump is opened
abbrev pub end_in : Judged → FilesEnd
end_in (ByFile line rule) = EndedAt 0
end_in (ByDumps verdict) = AllRead

abbrev pub status_of : Verdict → Status
status_of Yes = status.Done
status_of (No line rule) = status.No

abbrev pub checking : Program CheckSettings Judged
checking = record {
  given = check_settings_given;
  reads = reads_in;
  Gives = GivesOutcome;
  Before = IsBefore;
  status = λ judged. status_of (verdict_in judged);
  end = end_in;
  IsText = λ settings judged text note. (text ≡ verdict_text (verdict_in judged)) × (note ≡ []);
}
