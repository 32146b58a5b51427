-- What dumps are read on top of.
use Rattle.std.specs.Prelude.{◌≡◌, ◌≤◌, ℕ, List, Option, length}
use Rattle.dump_read.specs.declared.taking.Taken.{Taken}
use Rattle.relationships.specs.declared.given.Given.{Given}
use Rattle.result_text.specs.declared.file.ResultFile.{ResultFile}
use Rattle.rel_infer.specs.declared.earlier_table.Rest.{Rest}
use Rattle.rel_infer.specs.Earlier.{IsRestOf}
use Rattle.tor_words.specs.declared.settings.Settings.{Settings}
use Rattle.tor_output.specs.Knowing.{known_on}
use Rattle.tor_output.specs.Seen.{taken_up}

-- this result is taken up: that is taken in before the first dump, and this is left of it
pub record IsBegun (settings : Settings) (earlier : ResultFile) (rest : Rest) (taken : Taken) : Type 0 where
  pub left : IsRestOf earlier rest
  pub room : length earlier.paths ≤ settings.max_paths
  pub begun : taken ≡ taken_up earlier settings.max_paths

-- the same result where this is known
abbrev pub knowing : Option (List Given) → ResultFile → ResultFile
knowing known file = record file { givens = known }

-- this is left of a result, but that its givens are what is known on top of it over these paths
abbrev pub KnowsFurther : (top : Option (List ℕ)) → (paths : List (List ℕ)) → (earlier : ResultFile) → Rest → Type 0
KnowsFurther top paths earlier rest = IsRestOf (knowing (known_on top earlier paths) earlier) rest
