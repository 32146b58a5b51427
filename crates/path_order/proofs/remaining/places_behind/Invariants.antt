use Rattle.std.proofs.Common.{◌≡◌, ◌≤◌, length}
use Rattle.path_order.specs.Entries.{row_places}
use Rattle.path_order.proofs.remaining.places_behind.Given as goal

abbrev pub invariant-loop-turn : goal.invariant-loop-turn
invariant-loop-turn l = record {
  are : l.places.items ≡ row_places l.start l.turn;
  each : length l.places.items ≡ l.turn;
  room : l.count ≤ l.places.cap;
}
