-- What is gained where a result is taken up: where the earlier result is of some dumps, the one that is written is of these and then of the
-- new ones.
use Rattle.dump_read.specs.Wanted.{all_wanted}
use Rattle.std.specs.Prelude.{◌≡◌, ℕ, List, ◌++◌, map, Option, Some, Ok}
use Rattle.std.specs.Io.KnownBytes.{append_known}
use Rattle.std.specs.List.Sorted.{IsPermutation}
use Rattle.tor_arena.specs.Limits.{max_paths}
use Rattle.tor_io.specs.Contents.{Files}
use Rattle.dump_read.specs.declared.taking.Taken.{Taken}
use Rattle.path_order.specs.declared.choice.Order.TheVariants.{Seen}
use Rattle.result_text.specs.declared.file.ResultFile.{ResultFile}
use Rattle.result_text.specs.Grammar.{IsTextOf}
use Rattle.result_rules.specs.Against.{its_rows}
use Rattle.tor_words.specs.declared.settings.Settings.{Settings}
use Rattle.tor_words.specs.Given.{dumps_in, settings_given}
use Rattle.run_base.specs.Reading.{nothing, seen_of}
use Rattle.tor_output.specs.First.{TakesUp, first_in}
use Rattle.tor_output.specs.Output.{IsResumed}

-- the paths of the result with their times, and its counts, are what dumps of these octets give, read with its sets
abbrev pub IsOfDumps : ResultFile → List (List ℕ) → Type 0
IsOfDumps file dumps = (taken : Taken) × (seen_of (all_wanted file.sets) 1 (nothing max_paths) dumps ≡ Ok taken) ×
    (taken.table.rows ≡ its_rows file) × (taken.counts ≡ file.asides)

-- the same but for the order of the paths
abbrev pub IsOfDumpsInSomeOrder : ResultFile → List (List ℕ) → Type 0
IsOfDumpsInSomeOrder file dumps = (taken : Taken) × (seen_of (all_wanted file.sets) 1 (nothing max_paths) dumps ≡ Ok taken) ×
    IsPermutation taken.table.rows (its_rows file) × (taken.counts ≡ file.asides)

-- the files of these names have these octets, in order
abbrev pub Hold : Files → (names dumps : List (List ℕ)) → Type 0
Hold files names dumps = map files names ≡ map Some dumps

-- where the earlier result is of some dumps, wherever they are, this one is of these and then of the dumps that the words name: in some
-- order, or in theirs, where the earlier one is, and further paths are taken as they were seen
pub record IsOfBoth (settings : Settings) (files : Files) (earlier file : ResultFile) : Type 0 where
  pub dumps : List (List ℕ)
  pub hold : Hold files (dumps_in settings) dumps
  pub as_seen : settings.order ≡ Seen → (before : List (List ℕ)) → IsOfDumps earlier before → IsOfDumps file (before ++ dumps)
  pub in_some_order : (before : List (List ℕ)) → IsOfDumpsInSomeOrder earlier before → IsOfDumpsInSomeOrder file (before ++ dumps)

-- the words name a result that is taken up, and a sink gained the text of one that resumes it: where the earlier one is of some dumps,
-- wherever they are, it is of these and then of those that the words name
pub record GainsResumed (words : List (List ℕ)) (files : Files) (old new : Option (List ℕ)) : Type 0 where
  pub settings : Settings
  pub given : settings_given words ≡ Some settings
  pub earlier : ResultFile
  pub takes_up : TakesUp (first_in settings) files earlier
  pub taken : Taken
  pub file : ResultFile
  pub resumed : IsResumed settings earlier taken file
  pub text : List ℕ
  pub is_text : IsTextOf file text
  pub gained : new ≡ append_known old text
  pub of_both : IsOfBoth settings files earlier file
