-- What comes before a dump at which reading stopped.
use Rattle.std.specs.Prelude.{◌⊎◌, ◌-◌, ℕ, List, take, Option, IfSome, Result, IsOk}
use Rattle.tor_io.specs.Contents.{Files}
use Rattle.as_rel.specs.declared.givens.KnownLines.{KnownLines}
use Rattle.dump_read.specs.declared.taking.Taken.{Taken}
use Rattle.dump_read.specs.Seen.{DumpsEnd}
use Rattle.tor_words.specs.declared.settings.Settings.{Settings}
use Rattle.tor_words.specs.Given.{dumps_in}
use Rattle.result_text.specs.declared.file.ResultFile.{ResultFile}
use Rattle.tor_output.specs.First.{AreGivens, TakesUp, first_in}
use Rattle.tor_output.specs.Sampling.{sample_of}
use Rattle.tor_output.specs.Seen.{joined, seen_beside}

-- the file of known relationships, if one is named, is there, and all its lines are good
abbrev pub AreGivensGood : Settings → Option Files → Type 0
AreGivensGood settings known = IfSome known (λ files. (givens : Option KnownLines) × AreGivens (first_in settings) files givens)

-- the dumps before this one have no end, seen so
abbrev pub HasNoEndBefore : (List (List ℕ) → Files → Result Taken DumpsEnd) → List (List ℕ) → Files → ℕ → Type 0
HasNoEndBefore see dumps files dump = IsOk (see (take (dump - 1) dumps) files)

-- a result is taken up, which has no more paths than may be, and on top of it the dumps before this one have no end
abbrev pub JoinsBefore : Settings → Option Files → ℕ → Type 0
JoinsBefore settings known dump = IfSome known (λ files. (file : ResultFile) × TakesUp (first_in settings) files file ×
    HasNoEndBefore (joined file settings.max_paths) (dumps_in settings) files dump)

-- what is read first, if anything is, is good, and the dumps before this one have no end
abbrev pub IsGoodBefore : Settings → Option Files → ℕ → Type 0
IsGoodBefore settings known dump = (AreGivensGood settings known ×
    IfSome known (λ files. HasNoEndBefore (seen_beside (sample_of settings.job) settings) (dumps_in settings) files dump))
    ⊎ JoinsBefore settings known dump
