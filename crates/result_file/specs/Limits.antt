-- The limit of a result file, and the note where it has more octets.
use Rattle.std.specs.Prelude.{ℕ, List}
use Rattle.run_base.specs.declared.notes.FirstFile.TheVariants.{Result}
use Rattle.run_base.specs.Notes.{too_long_note}
use Rattle.result_file.specs.declared.ruling.TheConstants.{MAX_RESULT}

-- the most octets of a result file
abbrev pub max_result : ℕ
max_result = MAX_RESULT

abbrev pub result_note : List ℕ
result_note = too_long_note Result
