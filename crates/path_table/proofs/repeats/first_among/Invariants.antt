use Rattle.std.proofs.Common.{◌≡◌, ◌<◌, ◌≤◌, ℕ, length}
use Rattle.path_table.specs.Repeats.{Repeats, AreLinked, AreNewest}
use Rattle.path_table.proofs.repeats.first_among.Given as goal

abbrev pub invariant-loop-place : goal.invariant-loop-place
invariant-loop-place l = record {
  buckets : length l.newest ≡ l.many;
  room : length l.rows ≤ l.older.cap;
  passed : length l.older.items ≡ l.place;
  linked : AreLinked l.many l.hashes l.older.items l.place;
  newest : AreNewest l.many l.hashes l.newest l.place;
  before : (j : ℕ) → j < l.place → Repeats l.rows j → ⊥;
}
