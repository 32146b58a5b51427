use Rattle.std.proofs.Common.{◌≡◌, length, take}
use Rattle.tor_numbers.specs.Slots.{IsHeld}
use Rattle.tor_numbers.proofs.number_set.filled.Given as goal

abbrev pub invariant-loop-place : goal.invariant-loop-place
invariant-loop-place l = (length l.slots.items ≡ l.count) × IsHeld l.seed l.slots.items (take l.place l.numbers)
