use Rattle.std.proofs.Common.{◌≡◌, ◌<◌, ◌≤◌, ℕ, length, Some}
use Rattle.std.specs.Prelude.{slice_get}
use Rattle.asks.specs.Arriving.{IsRaised}
use Rattle.asks.proofs.arriving.add_ones.Given as goal

abbrev pub invariant-loop-place : goal.invariant-loop-place
invariant-loop-place l = record {
  many : length l.counts ≡ length l.masks;
  done : (k n : ℕ) → k < l.place → slice_get l.counts k ≡ Some n → IsRaised l.masks l.fn.counts k n;
  left : (k n : ℕ) → l.place ≤ k → slice_get l.counts k ≡ Some n → slice_get l.fn.counts k ≡ Some n;
}
