use Rattle.std.proofs.Common.{◌≤◌, ◌<◌, length, ℕ}
use Rattle.tor_arena.specs.Limits.{max_numbers}
use Rattle.path_table.specs.Chains.{row_at}
use Rattle.path_order.proofs.ordering.longest_of.Given as goal

abbrev pub invariant-loop-place : goal.invariant-loop-place
invariant-loop-place l = record {
  longest_is : (k : ℕ) → k < l.place → length (row_at l.rows k) ≤ l.longest;
  few : l.longest ≤ max_numbers;
}
