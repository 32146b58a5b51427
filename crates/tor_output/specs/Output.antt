-- What a run that is done has written, by its job.
use Rattle.dump_read.specs.Wanted.{all_wanted}
use Rattle.std.specs.Prelude.{◌≡◌, ◌≤◌, ◌++◌, ◌∷◌, [], ℕ, List, length, map, Ok, Option, None, Some, unwrap_or}
use Rattle.std.specs.Io.KnownBytes.{append_known}
use Rattle.tor_io.specs.Contents.{Files}
use Rattle.path_clean.specs.Counts.{CauseCounts}
use Rattle.path_table.specs.Rows.{Counted, row_paths}
use Rattle.path_order.specs.Orders.{ordered, ordered_behind}
use Rattle.relationships.specs.declared.given.Given.{Given}
use Rattle.dump_read.specs.declared.taking.Taken.{Taken}
use Rattle.as_rel.specs.declared.givens.KnownLines.{KnownLines}
use Rattle.as_rel.specs.Serial.{rel_in, rel_text}
use Rattle.as_rel.specs.Labelled.{line_of_edge}
use Rattle.asks.specs.declared.table.AskLine.{AskLine}
use Rattle.asks.specs.Asks.{AreAskLinesOf}
use Rattle.asks.specs.AsksText.{asks_text}
use Rattle.ties.specs.declared.table.TieLine.{TieLine}
use Rattle.ties.specs.Ties.{AreTieLinesOf}
use Rattle.ties.specs.TiesText.{ties_text}
use Rattle.result_text.specs.declared.file.ResultFile.{ResultFile}
use Rattle.result_text.specs.Grammar.{IsTextOf}
use Rattle.result_text.specs.Text.{its_givens}
use Rattle.rel_infer.specs.GivenResults.{IsResultWith}
use Rattle.rel_infer.specs.Resumed.{Continues}
use Rattle.rel_infer.specs.SelfAcceptance.{AreTableRows}
use Rattle.run_base.specs.Reading.{IsOfSomeDumps}
use Rattle.tor_words.specs.declared.job.Job.{Job}
use Rattle.tor_words.specs.declared.job.Job.TheVariants.{Count, Infer, Sample, Migrate, Resume}
use Rattle.tor_words.specs.declared.settings.Settings.{Settings}
use Rattle.tor_words.specs.declared.task.Counted.{Counted as What}
use Rattle.tor_words.specs.declared.task.Counted.TheVariants.{Listing, Survey}
use Rattle.tor_words.specs.declared.task.Made.{Made}
use Rattle.tor_words.specs.declared.task.Made.TheVariants as made
use Rattle.tor_words.specs.Given.{dumps_in, settings_given}
use Rattle.tor_survey.specs.SurveyText.{survey_text}
use Rattle.tor_survey.specs.Surveys.{survey_of}
use Rattle.tor_output.specs.Knowing.{known_of, known_on}
use Rattle.tor_output.specs.Listing.{listing}
use Rattle.tor_output.specs.Seen.{Outcome, Reads, Joins, Holds, Stops, Ends, ComesTo, joined, taken_up}
use Rattle.tor_output.specs.Summary.{summary}
use Rattle.tor_output.specs.Written.{Written}

-- ---- distinct paths

-- those that the dumps gave, each with its times, in the order of the settings
abbrev pub paths_taken : Settings → Taken → List Counted
paths_taken settings taken = ordered settings.order taken.table.rows

-- those of an earlier result as they stand there, and behind them, in that order, those that only the dumps gave
abbrev pub paths_joined : Settings → (earlier : ResultFile) → Taken → List Counted
paths_joined settings earlier taken = ordered_behind settings.order (length earlier.paths) taken.table.rows

-- ---- what is known

-- in a run over dumps alone
abbrev pub known_for : Settings → Option KnownLines → Taken → Option (List Given)
known_for settings said taken = known_of settings.top said (row_paths (paths_taken settings taken))

abbrev pub givens_for : Settings → Option KnownLines → Taken → List Given
givens_for settings said taken = unwrap_or (known_for settings said taken) []

-- and on top of an earlier result
abbrev pub known_joined : Settings → (earlier : ResultFile) → Taken → Option (List Given)
known_joined settings earlier taken = known_on settings.top earlier (row_paths (paths_joined settings earlier taken))

-- ---- the result of what the dumps gave

-- it has exactly their paths in order, times and counts, has what is known, and for these what follows from the definitions; that a checker
-- accepts it follows too (Accepting.antt)
abbrev pub Faithful : Settings → Option KnownLines → Taken → ResultFile → Type 0
Faithful settings said taken file = IsResultWith (known_for settings said taken) settings.sets settings.ratio (paths_taken settings taken) taken.counts file

-- the result of what the dumps gave on top of an earlier one: it has exactly the paths, times and counts of both, the earlier one's sets
-- and what is known, and for these what follows from the definitions; and its first path lines are those of the earlier one but for their times
abbrev pub IsResultOn : (top : Option (List ℕ)) → (ratio : ℕ) → (earlier : ResultFile) → List Counted → CauseCounts → ResultFile → Type 0
IsResultOn top ratio earlier paths counts file =
    IsResultWith (known_on top earlier (row_paths paths)) earlier.sets ratio paths counts file × Continues earlier file

abbrev pub IsResumed : Settings → (earlier : ResultFile) → Taken → ResultFile → Type 0
IsResumed settings earlier taken file =
    IsResultOn settings.top settings.ratio earlier (paths_joined settings earlier taken) taken.counts file

-- ---- what is written

-- the lines of serial-1 that say what the labels of a result say; read again they say it
abbrev pub IsSerialOf : ResultFile → List ℕ → Type 0
IsSerialOf file text = (text ≡ rel_text (map line_of_edge file.edges)) × (rel_in text ≡ Ok (map line_of_edge file.edges))

-- what is counted of what the dumps gave: a line for each path, or the lines of the survey
abbrev pub IsCounted : What → Settings → Taken → Written → Type 0
IsCounted Listing settings taken output = (output.text ≡ listing (paths_taken settings taken)) × (output.note ≡ [])
IsCounted Survey settings taken output = (output.text ≡ survey_text (survey_of taken)) × (output.note ≡ [])

-- the lines of the ties of these paths under these givens
abbrev pub AreTiesWritten : List Given → List (List ℕ) → Written → Type 0
AreTiesWritten givens paths output =
    (lines : List TieLine) × AreTieLinesOf givens paths lines × (output.text ≡ ties_text lines) × (output.note ≡ [])

-- the lines of what each open edge of these paths would settle under these givens
abbrev pub AreAsksWritten : List Given → List (List ℕ) → Written → Type 0
AreAsksWritten givens paths output =
    (lines : List AskLine) × AreAskLinesOf givens paths lines × (output.text ≡ asks_text lines) × (output.note ≡ [])

-- what is made of what is known and what the dumps gave: the text of the result, and its summary as a note; the lines of the ties of their
-- paths, or of their asks; or the lines of what the labels of the result say
abbrev pub IsMade : Made → Settings → Option KnownLines → Taken → Written → Type 0
IsMade made.Result settings known taken output =
    (file : ResultFile) × Faithful settings known taken file × IsTextOf file output.text × (output.note ≡ summary file ++ 10 ∷ [])
IsMade made.Ties settings known taken output =
    AreTiesWritten (givens_for settings known taken) (row_paths (paths_taken settings taken)) output
IsMade made.Asks settings known taken output =
    AreAsksWritten (givens_for settings known taken) (row_paths (paths_taken settings taken)) output
IsMade made.Serial settings known taken output =
    (file : ResultFile) × Faithful settings known taken file × IsSerialOf file output.text × (output.note ≡ [])

-- the summary of the result
abbrev pub IsSummedUp : Settings → Option KnownLines → Taken → Written → Type 0
IsSummedUp settings known taken output =
    (file : ResultFile) × Faithful settings known taken file × (output.text ≡ summary file ++ 10 ∷ []) × (output.note ≡ [])

-- by the job; a migration reads no dump, and what is resumed is no list of what is known
abbrev pub IsOutputIn : Job → Settings → Option KnownLines → Taken → Written → Type 0
IsOutputIn (Count counted dumps) settings known taken output = IsCounted counted settings taken output
IsOutputIn (Infer made given dumps) settings known taken output = IsMade made settings known taken output
IsOutputIn (Sample seed) settings known taken output = IsSummedUp settings known taken output
IsOutputIn (Migrate name) settings known taken output = ⊥
IsOutputIn (Resume earlier dumps) settings known taken output = ⊥

-- what a job makes of dumps alone, if it makes something
abbrev pub made_by : Job → Option Made
made_by (Infer made given dumps) = Some made
made_by _ = None

-- the same result with a list of givens, which is empty where it had none
abbrev pub migrated : ResultFile → ResultFile
migrated file = record file { givens = Some (its_givens file) }

-- its text, which is of version 2
abbrev pub IsMigrated : ResultFile → Written → Type 0
IsMigrated file output = IsTextOf (migrated file) output.text × (output.note ≡ [])

-- the text of the result of what the dumps gave on top of an earlier one, and its summary as a note
abbrev pub IsOutputOn : Settings → (earlier : ResultFile) → Taken → Written → Type 0
IsOutputOn settings earlier taken output = (file : ResultFile) × IsResumed settings earlier taken file × IsTextOf file output.text ×
    (output.note ≡ summary file ++ 10 ∷ [])

-- the dumps of these files give that on top of it
abbrev pub IsOutputOnEarlier : Settings → (earlier : ResultFile) → Files → Written → Type 0
IsOutputOnEarlier settings earlier files output = (taken : Taken) ×
    (joined earlier settings.max_paths (dumps_in settings) files ≡ Ok taken) × IsOutputOn settings earlier taken output

-- dumps of some octets give that, a file for each name of a dump
abbrev pub IsOutputOnSome : Settings → (earlier : ResultFile) → Written → Type 0
IsOutputOnSome settings earlier output = (taken : Taken) × (length earlier.paths ≤ settings.max_paths) ×
    IsOfSomeDumps (all_wanted earlier.sets) (length (dumps_in settings)) (taken_up earlier settings.max_paths) taken × AreTableRows taken.table.rows ×
    IsOutputOn settings earlier taken output

-- what is written of this outcome: of dumps by the job, of dumps on top of a result the result of both, and of a result its text of
-- version 2
abbrev pub IsOutput : Settings → Outcome → Written → Type 0
IsOutput settings (Reads known taken) output = IsOutputIn settings.job settings known taken output
IsOutput settings (Joins earlier taken) output = IsOutputOn settings earlier taken output
IsOutput settings (Holds file) output = IsMigrated file output
IsOutput settings (Stops end) output = ⊥
IsOutput settings (Ends end) output = ⊥

-- this is asked for of what the files give
abbrev pub IsOutputOf : Settings → Files → Written → Type 0
IsOutputOf settings files output = (outcome : Outcome) × ComesTo settings files outcome × IsOutput settings outcome output

-- the words ask for it, and the files that they name give that
pub record IsAsked (words : List (List ℕ)) (files : Files) (output : Written) : Type 0 where
  pub settings : Settings
  pub given : settings_given words ≡ Some settings
  pub outcome : Outcome
  pub comes : ComesTo settings files outcome
  pub written : IsOutput settings outcome output

-- a sink gained the text that is asked for, whose note is this
pub record GainsOutput (words : List (List ℕ)) (files : Files) (old new : Option (List ℕ)) (note : List ℕ) : Type 0 where
  pub output : Written
  pub asked : IsAsked words files output
  pub gained : new ≡ append_known old output.text
  pub noted : note ≡ output.note
