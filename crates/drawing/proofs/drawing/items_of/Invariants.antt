use Rattle.std.proofs.Common.{◌≡◌, ◌≤◌, ◌+◌, map, take, length}
use Rattle.std.specs.List.{enumerate_from}
use Rattle.drawing.specs.Picture.{item_of}
use Rattle.drawing.proofs.drawing.items_of.Given as goal

abbrev pub invariant-loop-place : goal.invariant-loop-place
invariant-loop-place l =
    (l.items.items ≡ map (item_of l.plan) (take l.place (enumerate_from 0 l.entries)))
    × (l.items.len + length l.entries ≤ l.items.cap + l.place)
