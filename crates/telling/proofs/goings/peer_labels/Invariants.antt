use Rattle.std.proofs.Common.{◌≡◌, ◌≤◌, ◌+◌, length}
use Rattle.telling.proofs.goings.peer_labels.Given as goal

abbrev pub invariant-loop : goal.invariant-loop
invariant-loop l = (length l.labels.items ≡ l.counter) × (l.labels.len + l.count ≤ l.labels.cap + l.counter)
