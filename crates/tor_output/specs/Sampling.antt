-- What is known and what is left of a shelf where the words ask for a sample, which reads no file.
use Rattle.std.specs.Prelude.{ℕ, List, Option, Some, None}
use Rattle.tor_io.specs.Contents.{Files}
use Rattle.tor_words.specs.declared.job.Job.{Job}
use Rattle.tor_words.specs.declared.job.Job.TheVariants.{Sample}
use Rattle.tor_words.specs.declared.settings.Settings.{Settings}
use Rattle.tor_words.specs.Given.{settings_given}

abbrev pub no_files : Files
no_files name = None

-- the number of the sample that a job reads in place of files
abbrev pub sample_of : Job → Option ℕ
sample_of (Sample seed) = Some seed
sample_of _ = None

-- this of a sample, and that of files
abbrev pub BySample : Option ℕ → Type 0 → Type 0 → Type 0
BySample (Some seed) of_sample of_files = of_sample
BySample None of_sample of_files = of_files

-- what is known of the files that a run reads: over a sample all, since it reads none
abbrev pub known_beside : Option ℕ → Option Files → Option Files
known_beside (Some seed) known = Some no_files
known_beside None known = known

abbrev pub known_in : Settings → Option Files → Option Files
known_in settings known = known_beside (sample_of settings.job) known

abbrev pub known_for : Option Settings → Option Files → Option Files
known_for None known = known
known_for (Some settings) known = known_in settings known

abbrev pub known_by : List (List ℕ) → Option Files → Option Files
known_by words known = known_for (settings_given words) known
