use Rattle.std.proofs.Common.{◌+◌, ◌≤◌, length}
use Rattle.as_graph.proofs.RowLemmas.{AreAdded}
use Rattle.as_graph.proofs.building.add_steps.Given as goal

abbrev pub invariant-loop-at : goal.invariant-loop-at
invariant-loop-at l =
    (AreAdded l.fn.edges l.edges l.path l.at l.fn.steps.items l.steps.items)
    × (l.steps.len + length l.path ≤ l.steps.cap + l.at)
