use Rattle.std.proofs.Common.{◌≡◌, ◌<◌, ◌≤◌, ℕ, length, slice_index}
use Rattle.path_table.specs.Chains.{row_at}
use Rattle.path_table.specs.RowKeys.{short_hash}
use Rattle.path_table.proofs.repeats.hashes_of.Given as goal

abbrev pub invariant-loop-place : goal.invariant-loop-place
invariant-loop-place l = record {
  each : length l.hashes.items ≡ l.place;
  room : length l.rows ≤ l.hashes.cap;
  are : (r : ℕ) → r < l.place → slice_index l.hashes.items r ≡ short_hash l.seed (row_at l.rows r);
}
