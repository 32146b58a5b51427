use Rattle.std.proofs.Common.{◌≡◌, ℕ, length}
use Rattle.reach_counts.specs.Masks.{AreBitsBefore}
use Rattle.reach_counts.proofs.masks.pass_all.Given as goal

abbrev pub invariant-loop-place : goal.invariant-loop-place
invariant-loop-place l = record {
  many : length l.masks ≡ l.rows.nodes;
  bits : (source : ℕ → ℕ) → AreBitsBefore l.rows source l.from l.fn.masks → AreBitsBefore l.rows source l.place l.masks;
}
