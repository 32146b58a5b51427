use Rattle.std.proofs.Common.{◌≡◌, ◌++◌, map, take, length}
use Rattle.std.specs.List.{enumerate_from}
use Rattle.drawing.specs.Generations.{perch_at}
use Rattle.drawing.proofs.tower.put_boxes.Given as goal

abbrev pub invariant-loop-place : goal.invariant-loop-place
invariant-loop-place l = l.perches.items ≡ l.fn.perches.items ++ map (perch_at (length l.entries) l.rank) (take l.place (enumerate_from 0 l.entries))
