use Rattle.std.proofs.Common.{◌≡◌, ◌≤◌, take}
use Rattle.std.specs.List.{count_by}
use Rattle.drawing.specs.Neighbours.{has_forced_edge}
use Rattle.drawing.proofs.neighbours.tally.Given as goal

abbrev pub invariant-loop-neighbour : goal.invariant-loop-neighbour
invariant-loop-neighbour l = record {
  counted : l.forced ≡ count_by has_forced_edge (take l.neighbour-index l.neighbours);
  few : l.forced ≤ l.neighbour-index;
}
