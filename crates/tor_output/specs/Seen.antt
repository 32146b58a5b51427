-- What the words and the files give: what is known, and what the dumps give in their order, or the sample; or a result; or a result that is
-- taken up, and what the dumps give on top of it.
use Rattle.dump_read.specs.Wanted.{all_wanted}
use Rattle.std.specs.Prelude.{◌≡◌, ◌≤◌, ◌⊎◌, ℕ, nat_lt, if◌then◌else◌, List, [], length, Option, None, Some, Result, Ok, Err}
use Rattle.tor_io.specs.Contents.{Files}
use Rattle.as_rel.specs.declared.givens.KnownLines.{KnownLines}
use Rattle.dump_read.specs.declared.error.LimitKind.TheVariants.{Paths}
use Rattle.dump_read.specs.declared.taking.Taken.{Taken}
use Rattle.dump_read.specs.Seen.{DumpsEnd, Limit, of_file}
use Rattle.result_text.specs.declared.file.ResultFile.{ResultFile}
use Rattle.result_rules.specs.Against.{its_rows}
use Rattle.tor_sample.specs.Records.{sample}
use Rattle.tor_words.specs.declared.settings.Settings.{Settings}
use Rattle.tor_words.specs.Given.{dumps_in, settings_given}
use Rattle.run_base.specs.Reading.{seen_from, IsOfSomeDumps, nothing}
use Rattle.rel_infer.specs.SelfAcceptance.{AreTableRows}
use Rattle.tor_output.specs.Sampling.{sample_of}
use Rattle.tor_output.specs.First.{FirstEnd, first_in, AreGivens, HoldsResult, TakesUp}
use Rattle.tor_output.specs.First.{EndsAtFirst, AreSomeGivens, AreSound, IsSomeResult, TakesUpSome}

-- ---- what dumps give

-- of dumps of these names, in their order
abbrev pub seen_of_dumps : Settings → List (List ℕ) → Files → Result Taken DumpsEnd
seen_of_dumps settings dumps files = seen_from (all_wanted settings.sets) 1 (nothing settings.max_paths) dumps files

-- of those that the settings name
abbrev pub seen : Settings → Files → Result Taken DumpsEnd
seen settings files = seen_of_dumps settings (dumps_in settings) files

-- the same of one dump that is the sample of this number, and no file
abbrev pub seen_in_sample : Settings → ℕ → Result Taken DumpsEnd
seen_in_sample settings seed = of_file (all_wanted settings.sets) 1 (nothing settings.max_paths) (Some (sample seed))

-- of what is read: dumps of these names, or the sample in their place
abbrev pub seen_beside : Option ℕ → Settings → List (List ℕ) → Files → Result Taken DumpsEnd
seen_beside (Some seed) settings dumps files = seen_in_sample settings seed
seen_beside None settings dumps files = seen_of_dumps settings dumps files

abbrev pub seen_in : Settings → Files → Result Taken DumpsEnd
seen_in settings files = seen_beside (sample_of settings.job) settings (dumps_in settings) files

-- this is what some octets give, a file for each name of a dump; or it is what the sample gives
abbrev pub IsSeenBeside : Option ℕ → Settings → List (List ℕ) → Taken → Type 0
IsSeenBeside (Some seed) settings dumps taken = seen_in_sample settings seed ≡ Ok taken
IsSeenBeside None settings dumps taken = IsOfSomeDumps (all_wanted settings.sets) (length dumps) (nothing settings.max_paths) taken

-- ---- what dumps give on top of a result

-- before the first dump: its paths with their times, and its counts
abbrev pub taken_up : ResultFile → ℕ → Taken
taken_up file limit = record { table = record { limit = limit; rows = its_rows file }; counts = file.asides; files = [] }

-- of these dumps, read with its sets. Where it has more paths than may be, that limit is met before the first of them
abbrev pub joined : ResultFile → ℕ → List (List ℕ) → Files → Result Taken DumpsEnd
joined file limit dumps files =
    if nat_lt limit (length file.paths) then Err (Limit Paths 0) else seen_from (all_wanted file.sets) 1 (taken_up file limit) dumps files

-- ---- what a run comes to

-- what is known and what dumps gave, a result, or why there is neither
pub data Outcome : Type 0 where
  -- a file, if one is named, says that this is known, and all dumps gave that
  Reads : Option KnownLines → Taken → Outcome
  -- this result is taken up, and all dumps gave that on top of it
  Joins : ResultFile → Taken → Outcome
  -- the file that is read first holds this result
  Holds : ResultFile → Outcome
  -- it gives nothing for this
  Stops : FirstEnd → Outcome
  -- what it says is known, or it is taken up, and the dumps have this end
  Ends : DumpsEnd → Outcome

-- the dumps have this end, where what is read first says what is known
abbrev pub EndsBehindGivens : Settings → Files → DumpsEnd → Type 0
EndsBehindGivens settings files end = (known : Option KnownLines) × AreGivens (first_in settings) files known ×
    (seen_in settings files ≡ Err end)

-- they have it on top of the result that is taken up
abbrev pub EndsOnEarlier : Settings → Files → DumpsEnd → Type 0
EndsOnEarlier settings files end = (file : ResultFile) × TakesUp (first_in settings) files file ×
    (joined file settings.max_paths (dumps_in settings) files ≡ Err end)

-- what the settings and the files give
abbrev pub ComesTo : Settings → Files → Outcome → Type 0
ComesTo settings files (Reads known taken) =
    AreGivens (first_in settings) files known × (seen_in settings files ≡ Ok taken)
ComesTo settings files (Joins file taken) =
    TakesUp (first_in settings) files file × (joined file settings.max_paths (dumps_in settings) files ≡ Ok taken)
ComesTo settings files (Holds file) = HoldsResult (first_in settings) files file
ComesTo settings files (Stops end) = EndsAtFirst (first_in settings) files end
ComesTo settings files (Ends end) = EndsBehindGivens settings files end ⊎ EndsOnEarlier settings files end

-- what the settings and some octets give, in place of each file that they name; rows are then as a table has them, and givens are sound
abbrev pub ComesOfSome : Settings → Outcome → Type 0
ComesOfSome settings (Reads known taken) =
    AreSomeGivens (first_in settings) known × IsSeenBeside (sample_of settings.job) settings (dumps_in settings) taken ×
    AreTableRows taken.table.rows × AreSound known
ComesOfSome settings (Joins file taken) =
    TakesUpSome (first_in settings) file × (length file.paths ≤ settings.max_paths) ×
    IsOfSomeDumps (all_wanted file.sets) (length (dumps_in settings)) (taken_up file settings.max_paths) taken × AreTableRows taken.table.rows
ComesOfSome settings (Holds file) = IsSomeResult (first_in settings) file
ComesOfSome settings (Stops end) = ⊥
ComesOfSome settings (Ends end) = ⊥

-- what the words and the files give
abbrev pub Gives : List (List ℕ) → Files → Outcome → Type 0
Gives words files outcome = (settings : Settings) × (settings_given words ≡ Some settings) × ComesTo settings files outcome

-- words and files give one outcome at most
abbrev pub OneOutcomeLaw : Type 0
OneOutcomeLaw =
    (words : List (List ℕ)) (files : Files) (outcome other : Outcome) → Gives words files outcome → Gives words files other →
    outcome ≡ other
