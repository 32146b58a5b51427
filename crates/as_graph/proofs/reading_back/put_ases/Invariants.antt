use Rattle.std.proofs.Common.{◌≡◌, ◌+◌, ◌≤◌, ◌++◌, length, take, map}
use Rattle.as_graph.specs.Inside.{as_along}
use Rattle.as_graph.proofs.reading_back.put_ases.Given as goal

abbrev pub invariant-loop-at : goal.invariant-loop-at
invariant-loop-at l =
    (l.ases.items ≡ l.initial.ases.items ++ map (as_along l.reached) (take l.at l.steps))
    × (l.ases.len + length l.steps ≤ l.ases.cap + l.at)
