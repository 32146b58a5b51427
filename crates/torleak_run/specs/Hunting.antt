-- What `torleak` is to its run: a result and dumps come to what becomes of the paths of the dumps behind the result, which is written.
use Rattle.std.specs.Prelude.{◌≡◌, ◌⊎◌, [], ℕ, zero, suc, List, length, Option, None, Some, Result, Ok, Err, ⊤}
use Rattle.tor_arena.specs.Limits.{max_paths}
use Rattle.tor_io.specs.Contents.{Files}
use Rattle.tor_io.specs.declared.shelf.Shelf as shelf
use Rattle.path_table.specs.declared.table.AddRefused.{AddRefused}
use Rattle.path_table.specs.declared.table.AddRefused.TheVariants as refused
use Rattle.path_table.specs.Rows.{row_paths}
use Rattle.dump_read.specs.declared.error.DumpError.{DumpError}
use Rattle.dump_read.specs.declared.error.DumpError.TheVariants as error
use Rattle.dump_read.specs.declared.error.LimitKind.TheVariants.{Paths, Numbers}
use Rattle.dump_read.specs.declared.taking.Taken.{Taken}
use Rattle.dump_read.specs.Wanted.{all_wanted}
use Rattle.dump_read.specs.Seen.{DumpsEnd, end_named}
use Rattle.result_text.specs.declared.file.ResultFile.{ResultFile}
use Rattle.result_rules.specs.declared.verdict.Verdict.TheVariants.{No}
use Rattle.result_rules.specs.File.{its_paths}
use Rattle.route_leaks.specs.declared.found.Leaks.{Leaks}
use Rattle.route_leaks.specs.Leaks.{AreLeaksOf, limit_beside}
use Rattle.leak_text.specs.LeakText.{leaks_text}
use Rattle.tor_words.specs.declared.leak_settings.LeakSettings.{LeakSettings}
use Rattle.tor_words.specs.LeakGiven.{leak_settings_given}
use Rattle.run_base.specs.declared.notes.FirstFile.TheVariants as kind
use Rattle.run_base.specs.declared.status.Status.TheVariants.{Done}
use Rattle.run_base.specs.declared.stop.Stop.{Stop}
use Rattle.run_base.specs.Opening.{AllRead}
use Rattle.run_base.specs.Programs.{Reads, Outcome, Makes, NoFile, TooLong, BadLine, Breaks, Lacks, Ends, Program}
use Rattle.run_base.specs.Programs.{DumpsEndAt, DumpsGive, HasOctets, IsAbsent, IsTooLong, ReadBefore}
use Rattle.run_base.specs.Reading.{nothing}
use Rattle.run_base.specs.Stopping.{Asks}
use Rattle.result_file.specs.Limits.{max_result}
use Rattle.result_file.specs.Ruled.{BreaksRule, IsAccepted}

-- leaks are found of a result, and of what dumps gave
pub record Basis : Type 0 where
  pub file : ResultFile
  pub taken : Taken

-- the result file, at most 2 ^ 31 octets, and then the dumps
abbrev pub reads_in : LeakSettings → Option Reads
reads_in settings =
    Some (record { first = Some (record { name = settings.result; most = max_result; kind = kind.Result }); dumps = settings.dumps })

-- that file, as far as it is known, holds this result, which meets the rules 0 to 10
abbrev pub HoldsSuch : LeakSettings → Option Files → ResultFile → Type 0
HoldsSuch settings known file = (bytes : List ℕ) × HasOctets known settings.result max_result bytes × IsAccepted file bytes

-- the dumps, as far as they are known, give this, read with the sets of the result
abbrev pub GiveBehind : LeakSettings → Option Files → ResultFile → Taken → Type 0
GiveBehind settings known file taken = DumpsGive known (all_wanted file.sets) settings.dumps (nothing max_paths) taken

-- the limit that the paths of dumps pass beside those of the result, if they do
abbrev pub limit_behind : ResultFile → Taken → Option AddRefused
limit_behind file taken = limit_beside (its_paths file) (row_paths taken.table.rows)

-- why it is no more than may be, as an error of a dump
abbrev pub error_of : AddRefused → DumpError
error_of refused.TooManyPaths = error.Limit Paths
error_of refused.TooManyNumbers = error.Limit Numbers
error_of refused.NoMemory = error.NoMemory

-- all dumps were read, and beside the paths of the result theirs pass a limit. It is told of the last dump
abbrev pub PassLimit : LeakSettings → Option Files → ResultFile → DumpsEnd → Type 0
PassLimit settings known file end = (taken : Taken) × GiveBehind settings known file taken ×
    ((why : AddRefused) × (limit_behind file taken ≡ Some why) × (end_named (length settings.dumps) (error_of why) ≡ Some end))

-- what the settings and the files come to
abbrev pub GivesLeaks : LeakSettings → Option Files → Outcome Basis → Type 0
GivesLeaks settings known (Makes basis) =
    HoldsSuch settings known basis.file × GiveBehind settings known basis.file basis.taken × (limit_behind basis.file basis.taken ≡ None)
GivesLeaks settings known NoFile = IsAbsent known settings.result
GivesLeaks settings known TooLong = IsTooLong known settings.result max_result
GivesLeaks settings known (BadLine line) = ⊥
GivesLeaks settings known (Breaks line rule) =
    (bytes : List ℕ) × HasOctets known settings.result max_result bytes × BreaksRule bytes (No line rule)
GivesLeaks settings known (Lacks note) = ⊥
GivesLeaks settings known (Ends end) = (file : ResultFile) × HoldsSuch settings known file ×
    (DumpsEndAt known (all_wanted file.sets) settings.dumps (nothing max_paths) end ⊎ PassLimit settings known file end)

-- the result is judged before any dump is opened, and these are read in their order
abbrev pub IsBefore : LeakSettings → Option Files → ℕ → Type 0
IsBefore settings known zero = ⊤
IsBefore settings known (suc n) =
    (file : ResultFile) × HoldsSuch settings known file × ReadBefore known (all_wanted file.sets) settings.dumps (nothing max_paths) (suc n)

-- a line for each path of the dumps that the result does not keep, and how many there are of each kind; nothing is noted
abbrev pub IsHunt : LeakSettings → Basis → (text note : List ℕ) → Type 0
IsHunt settings basis text note =
    (leaks : Leaks) × AreLeaksOf basis.file basis.taken.table.rows leaks × (text ≡ leaks_text leaks) × (note ≡ [])

abbrev pub hunting : Program LeakSettings Basis
hunting = record {
  given = leak_settings_given;
  reads = reads_in;
  Gives = GivesLeaks;
  Before = IsBefore;
  status = λ basis. Done;
  end = λ basis. AllRead;
  IsText = IsHunt;
}

-- these leaks are found of what the settings and the files give; or nothing is, for such a reason
abbrev pub Hunts : {H : Type 0} → LeakSettings → shelf.Ghosts H → Result Leaks Stop → (old new : H) → Type 0
Hunts settings h (Ok leaks) old new = (basis : Basis) × Asks hunting settings h (λ (made : Basis). made) (Ok basis) old new ×
    AreLeaksOf basis.file basis.taken.table.rows leaks
Hunts settings h (Err stop) old new = Asks hunting settings h (λ (made : Basis). made) (Err stop) old new
