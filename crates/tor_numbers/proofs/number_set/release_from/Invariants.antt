use Rattle.std.proofs.Common.{◌≤◌, ◌-◌, length, take}
use Rattle.tor_numbers.specs.Slots.{IsHeld}
use Rattle.tor_numbers.proofs.number_set.release_from.Given as goal

abbrev pub invariant-loop-left : goal.invariant-loop-left
invariant-loop-left l = (l.count ≤ l.left) × (l.left ≤ length l.numbers) × IsHeld l.seed l.slots (take l.left l.numbers)

abbrev pub decreases-loop-left : goal.decreases-loop-left
decreases-loop-left l = l.left - l.count
