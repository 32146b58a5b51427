-- What a run has seen of its dumps, and when it sees all of them: the laws of the whole run.
use Rattle.std.specs.Prelude.{◌≡◌, ◌↔◌, ℕ, List, [], ◌∷◌, map, Option, None, Some, Ok}
use Rattle.std.specs.List.{All}
use Rattle.tor_io.specs.Contents.{Files}
use Rattle.dump_read.specs.declared.taking.Taken.{Taken}
use Rattle.dump_read.specs.FileLaws.{HoldTogether}
use Rattle.dump_read.specs.Files.{file_counts, together}
use Rattle.dump_read.specs.Laws.{IsTakenOf, routes_in_files, cleaned_paths, Fit}
use Rattle.dump_read.specs.Reading.{Whole, file_reading}
use Rattle.dump_read.specs.declared.wanted.Wanted.{Wanted}
use Rattle.dump_read.specs.Wanted.{all_wanted}
use Rattle.tor_sample.specs.Records.{sample}
use Rattle.tor_words.specs.declared.settings.Settings.{Settings}
use Rattle.tor_words.specs.Given.{dumps_in}
use Rattle.run_base.specs.Reading.{nothing, seen_from}
use Rattle.tor_output.specs.Sampling.{sample_of}
use Rattle.tor_output.specs.Seen.{seen_in}

-- the dumps of a run, in their order, each with its octets if it is there: those that the words name, or the sample that they ask for
abbrev pub dumps_beside : Option ℕ → List (List ℕ) → Files → List (Option (List ℕ))
dumps_beside (Some seed) dumps files = Some (sample seed) ∷ []
dumps_beside None dumps files = map files dumps

abbrev pub dumps_for : Settings → Files → List (Option (List ℕ))
dumps_for settings files = dumps_beside (sample_of settings.job) (dumps_in settings) files

-- a dump of these octets is read to its end
abbrev pub IsWhole : List ℕ → Type 0
IsWhole octets = (file_reading octets).end ≡ Whole

-- what was taken in is of all these dumps, each of which is there and is read to its end
pub record IsSeenOf (wanted : Wanted) (dumps : List (Option (List ℕ))) (taken : Taken) : Type 0 where
  pub octets : List (List ℕ)
  pub there : dumps ≡ map Some octets
  pub whole : All IsWhole octets
  -- the distinct cleaned paths of all their routes that count, each with how often it came, and how many routes are set aside for each cause
  pub routes : IsTakenOf wanted.sets (routes_in_files wanted octets) taken
  -- what each of them holds, in order, and so what all of them hold together
  pub files : taken.files ≡ map (file_counts wanted) octets
  pub held : HoldTogether wanted octets (together taken.files)

-- what is taken in of dumps that are read one after the other, the first from nothing on, is of all of them
abbrev pub DumpsLaw : Type 0
DumpsLaw =
    (wanted : Wanted) (limit : ℕ) (names : List (List ℕ)) (files : Files) (taken : Taken)
    → seen_from wanted 1 (nothing limit) names files ≡ Ok taken → IsSeenOf wanted (map files names) taken

-- what a run has seen is of all its dumps
abbrev pub SeenLaw : Type 0
SeenLaw =
    (settings : Settings) (files : Files) (taken : Taken)
    → seen_in settings files ≡ Ok taken → IsSeenOf (all_wanted settings.sets) (dumps_for settings files) taken

-- ---- when all is read

-- each of these dumps is there and is read to its end, and the distinct cleaned paths of all their routes that count are at most so many and have at
-- most `max_numbers` numbers in sum
pub record AreReadable (wanted : Wanted) (limit : ℕ) (dumps : List (Option (List ℕ))) : Type 0 where
  pub octets : List (List ℕ)
  pub there : dumps ≡ map Some octets
  pub whole : All IsWhole octets
  pub fit : Fit limit (cleaned_paths wanted.sets (routes_in_files wanted octets))

-- dumps that are read one after the other are all taken in exactly where they are readable
abbrev pub DumpsReadableLaw : Type 0
DumpsReadableLaw =
    (wanted : Wanted) (limit : ℕ) (names : List (List ℕ)) (files : Files)
    → ((taken : Taken) × (seen_from wanted 1 (nothing limit) names files ≡ Ok taken)) ↔ AreReadable wanted limit (map files names)

-- a run sees all its dumps exactly where they are readable
abbrev pub ReadableLaw : Type 0
ReadableLaw =
    (settings : Settings) (files : Files)
    → ((taken : Taken) × (seen_in settings files ≡ Ok taken)) ↔
    AreReadable (all_wanted settings.sets) settings.max_paths (dumps_for settings files)
