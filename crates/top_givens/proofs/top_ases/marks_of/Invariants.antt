use Rattle.std.proofs.Common.{◌≡◌, ◌≤◌, ◌<◌, ◌%◌, ℕ, length, slice_index}
use Rattle.top_givens.proofs.top_ases.marks_of.Given as goal

abbrev pub invariant-loop-k : goal.invariant-loop-k
invariant-loop-k l = record {
  all : length l.marks ≡ 1024;
  marked : (j : ℕ) → j < l.k → 1 ≤ slice_index l.marks (slice_index l.ases j % 1024);
}
