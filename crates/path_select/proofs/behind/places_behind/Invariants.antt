use Rattle.std.proofs.Common.{◌≡◌, ◌≤◌, ◌-◌}
use Rattle.path_select.specs.Behind.{places_from}
use Rattle.path_select.proofs.behind.places_behind.Given as goal

abbrev pub invariant-loop-place : goal.invariant-loop-place
invariant-loop-place l = (l.count ≤ l.place) × (l.places ≡ places_from l.count (l.place - l.count))
