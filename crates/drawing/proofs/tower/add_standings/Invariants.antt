use Rattle.std.proofs.Common.{◌++◌, map, take}
use Rattle.std.specs.List.{enumerate_from}
use Rattle.drawing.specs.Generations.{standing_at}
use Rattle.drawing.proofs.Towering.{FoundAlike}
use Rattle.drawing.proofs.tower.add_standings.Given as goal

abbrev pub invariant-loop-place : goal.invariant-loop-place
invariant-loop-place l =
    FoundAlike l.drawn (l.fn.drawn ++ map (standing_at l.boxes l.rank) (take l.place (enumerate_from 0 (take l.most l.generation))))
