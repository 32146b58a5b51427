use Rattle.std.proofs.Common.{◌≡◌, ◌<◌, ℕ, slice_get}
use Rattle.result_rules.specs.Against.{its_rows}
use Rattle.line_rules.proofs.against.differing_path.Given as goal

abbrev pub invariant-loop-place : goal.invariant-loop-place
invariant-loop-place l = (j : ℕ) → j < l.place → slice_get (its_rows l.file) j ≡ slice_get l.table.rows j
