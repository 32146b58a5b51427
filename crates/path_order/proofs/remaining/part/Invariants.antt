use Rattle.std.proofs.Common.{◌≡◌, ◌≤◌, length, take}
use Rattle.path_order.specs.Entries.{entries_at, sized, unsized}
use Rattle.path_order.proofs.remaining.part.Given as goal

abbrev pub invariant-loop-k : goal.invariant-loop-k
invariant-loop-k l = record {
  taken_are : l.taken.items ≡ entries_at l.rows (sized l.rows l.size (take l.k l.left));
  longer_are : l.longer.items ≡ unsized l.rows l.size (take l.k l.left);
  few_taken : length l.taken.items ≤ l.k;
  few_longer : length l.longer.items ≤ l.k;
  room_taken : length l.left ≤ l.taken.cap;
  room_longer : length l.left ≤ l.longer.cap;
}
