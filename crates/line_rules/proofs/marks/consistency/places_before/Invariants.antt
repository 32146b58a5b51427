use Rattle.std.proofs.Common.{◌≡◌, ℕ, ◌<◌, length, All, Contains}
use Rattle.line_rules.proofs.marks.consistency.places_before.Given as goal

abbrev pub invariant-loop-place : goal.invariant-loop-place
invariant-loop-place l = record {
  many : length l.places ≡ l.place;
  inside : All (λ k. k < l.place) l.places;
  all : (k : ℕ) → k < l.place → Contains l.places k;
}
