use Rattle.std.proofs.Common.{◌≡◌, ◌^◌, ◌<◌, ℕ, length, [], Some}
use Rattle.std.specs.Prelude.{slice_get}
use Rattle.as_ranks.specs.declared.rank.Rank.{Rank}
use Rattle.as_ranks.specs.Tallies.{rank_under}
use Rattle.as_ranks.proofs.ranking.add_untallied.Given as goal

abbrev pub invariant-loop-place : goal.invariant-loop-place
invariant-loop-place l = record {
  many : length l.ranks.items ≡ l.place;
  each : (k : ℕ) (r : Rank) → slice_get l.ranks.items k ≡ Some r →
      (a n : ℕ) × (slice_get l.ases k ≡ Some a) × (slice_get l.cones k ≡ Some n) × (n < 2 ^ 32) × (r ≡ rank_under [] a n);
}
