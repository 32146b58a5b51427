use Rattle.std.proofs.Common.{◌≡◌, ℕ, ◌<◌, take}
use Rattle.result_rules.specs.File.{its_givens}
use Rattle.line_rules.specs.GivenHeads.{IsNewGivenAt, edges_given}
use Rattle.line_rules.proofs.givens.first_unsound.Given as goal

-- the givens before this one are new, and the table has their edges
abbrev pub invariant-loop-place : goal.invariant-loop-place
invariant-loop-place l = record {
  new : (k : ℕ) → k < l.place → IsNewGivenAt l.file k;
  known : l.table ≡ edges_given (take l.place (its_givens l.file));
}
