use Rattle.std.proofs.Common.{◌≡◌, ◌≤◌, length}
use Rattle.path_table.specs.Lookups.{AreHashed}
use Rattle.path_table.proofs.lookup.add_hashes.Given as goal

abbrev pub invariant-loop-place : goal.invariant-loop-place
invariant-loop-place l = record {
  many : length l.hashes.items ≡ l.place;
  room : length l.paths ≤ l.hashes.cap;
  hashed : AreHashed l.seed l.paths l.hashes.items;
}
