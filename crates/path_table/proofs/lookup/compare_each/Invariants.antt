use Rattle.std.proofs.Common.{◌≡◌, ◌≤◌, length}
use Rattle.path_table.specs.Lookups.{AreRowsWhereFound}
use Rattle.path_table.proofs.lookup.compare_each.Given as goal

abbrev pub invariant-loop-place : goal.invariant-loop-place
invariant-loop-place l = record {
  many : length l.places.items ≡ l.place;
  room : length l.paths ≤ l.places.cap;
  rows : AreRowsWhereFound l.table.rows l.paths l.places.items;
}
