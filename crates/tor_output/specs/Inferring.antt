-- What `tor` is to its run: by its job it reads dumps, a sample, or a result, and writes what is made of that.
use Rattle.std.specs.Prelude.{[], ℕ, zero, suc, List, Option, None, Some, IfSome, option_map, ⊤}
use Rattle.tor_io.specs.Contents.{Files}
use Rattle.as_rel.specs.declared.givens.KnownLines.{KnownLines}
use Rattle.dump_read.specs.declared.taking.Taken.{Taken}
use Rattle.result_text.specs.declared.file.ResultFile.{ResultFile}
use Rattle.tor_words.specs.declared.job.Job.{Job}
use Rattle.tor_words.specs.declared.job.Job.TheVariants.{Count, Infer, Sample, Migrate, Resume}
use Rattle.tor_words.specs.declared.settings.Settings.{Settings}
use Rattle.tor_words.specs.Given.{settings_given}
use Rattle.run_base.specs.declared.notes.FirstFile.TheVariants as kind
use Rattle.run_base.specs.declared.status.Status.TheVariants.{Done}
use Rattle.run_base.specs.Opening.{AllRead}
use Rattle.run_base.specs.Programs.{First, Reads, Outcome, Makes, NoFile, TooLong, BadLine, Breaks, Lacks, Ends, Program}
use Rattle.result_file.specs.Limits.{max_result}
use Rattle.tor_output.specs.Before.{IsGoodBefore}
use Rattle.tor_output.specs.First as first
use Rattle.tor_output.specs.First.{IsTakenUp, first_in}
use Rattle.tor_output.specs.Limits.{max_given_octets}
use Rattle.tor_output.specs.Output.{IsOutput}
use Rattle.tor_output.specs.Sampling.{known_in}
use Rattle.tor_output.specs.Seen as seen
use Rattle.tor_output.specs.Seen.{ComesTo, ComesOfSome}

-- ---- the files

abbrev pub given_file : List ℕ → First
given_file name = record { name = name; most = max_given_octets; kind = kind.Given }

abbrev pub result_named : List ℕ → First
result_named name = record { name = name; most = max_result; kind = kind.Result }

-- known relationships and dumps, a result to migrate alone, or an earlier result and dumps; a sample stands in no file
abbrev pub reads_by : Job → Option Reads
reads_by (Count counted dumps) = Some (record { first = None; dumps = dumps })
reads_by (Infer made given dumps) = Some (record { first = option_map given_file given; dumps = dumps })
reads_by (Sample seed) = None
reads_by (Migrate name) = Some (record { first = Some (result_named name); dumps = [] })
reads_by (Resume earlier dumps) = Some (record { first = Some (result_named earlier); dumps = dumps })

-- ---- what they come to

-- what a text is made of
pub data Basis : Type 0 where
  -- these relationships are known, if a file of them is named, and the dumps, or the sample, gave that
  Seen : Option KnownLines → Taken → Basis
  -- this result is taken up, and the dumps gave that on top of it
  Joined : ResultFile → Taken → Basis
  -- the file holds this result
  Held : ResultFile → Basis

abbrev pub outcome_of : Basis → seen.Outcome
outcome_of (Seen known taken) = seen.Reads known taken
outcome_of (Joined earlier taken) = seen.Joins earlier taken
outcome_of (Held file) = seen.Holds file

-- the settings and the files give it; where nothing is known of these, some octets in their place do
abbrev pub GivesBasis : Settings → Option Files → Basis → Type 0
GivesBasis settings None basis = ComesOfSome settings (outcome_of basis)
GivesBasis settings (Some files) basis = ComesTo settings files (outcome_of basis)

-- where the files are known, they give this
abbrev pub GivesEnd : Settings → Option Files → seen.Outcome → Type 0
GivesEnd settings known x = IfSome known (λ files. ComesTo settings files x)

-- what the settings and the files come to; of a sample nothing need be known of any file
abbrev pub GivesOutcome : Settings → Option Files → Outcome Basis → Type 0
GivesOutcome settings known (Makes basis) = GivesBasis settings known basis
GivesOutcome settings known NoFile = GivesEnd settings known (seen.Stops first.NoFile)
GivesOutcome settings known TooLong = GivesEnd settings known (seen.Stops first.TooLong)
GivesOutcome settings known (BadLine line) = GivesEnd settings known (seen.Stops (first.BadLine line))
GivesOutcome settings known (Breaks line rule) =
    IsTakenUp (first_in settings) × GivesEnd settings known (seen.Stops (first.Broken line rule))
GivesOutcome settings known (Lacks note) = ⊥
GivesOutcome settings known (Ends end) = GivesEnd settings known (seen.Ends end)

-- what is read first is good before any dump is opened, and these are read in their order
abbrev pub IsBefore : Settings → Option Files → ℕ → Type 0
IsBefore settings known zero = ⊤
IsBefore settings known (suc n) = IsGoodBefore settings known (suc n)

abbrev pub inferring : Program Settings Basis
inferring = record {
  given = settings_given;
  reads = λ settings. reads_by settings.job;
  Gives = λ settings known x. GivesOutcome settings (known_in settings known) x;
  Before = λ settings known number. IsBefore settings (known_in settings known) number;
  status = λ basis. Done;
  end = λ basis. AllRead;
  IsText = λ settings basis text note. IsOutput settings (outcome_of basis) (record { text = text; note = note });
}
