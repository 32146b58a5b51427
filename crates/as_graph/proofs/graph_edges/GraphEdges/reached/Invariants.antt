use Rattle.std.proofs.Common.{◌≡◌, ◌+◌, ◌*◌, ◌≤◌, take}
use Rattle.as_graph.specs.Inside.{reached_by}
use Rattle.as_graph.proofs.graph_edges.GraphEdges.reached.Given as goal

abbrev pub invariant-loop-place : goal.invariant-loop-place
invariant-loop-place l =
    (l.ases.items ≡ reached_by (take l.place l.self))
    × (l.ases.len + l.count * 2 ≤ l.ases.cap + l.place * 2)
