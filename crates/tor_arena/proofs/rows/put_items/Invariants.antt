use Rattle.std.proofs.Common.{◌≡◌, ◌+◌, ◌≤◌, ◌++◌, take, length}
use Rattle.tor_arena.proofs.rows.put_items.Given as goal

abbrev pub invariant-loop-place : goal.invariant-loop-place
invariant-loop-place g l =
    (l.items.items ≡ l.fn.items.items ++ take l.place l.row)
    × (l.items.len + length l.row ≤ l.items.cap + l.place)
