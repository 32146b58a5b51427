use Rattle.std.proofs.Common.{◌≡◌, map, take}
use Rattle.as_ranks.specs.Cycles.{inside_of}
use Rattle.as_ranks.proofs.cycles.tell_inside.Given as goal

abbrev pub invariant-loop-place : goal.invariant-loop-place
invariant-loop-place l = l.inside ≡ map (inside_of l.lines) (take l.place l.cycles)
