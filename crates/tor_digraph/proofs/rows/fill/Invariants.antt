use Rattle.std.proofs.Common.{◌≡◌, ◌+◌, ◌≤◌, length}
use Rattle.tor_digraph.specs.InRows.{IsFilled}
use Rattle.tor_digraph.proofs.rows.fill.Given as goal

abbrev pub invariant-loop-left : goal.invariant-loop-left
invariant-loop-left g l = record {
  many : length l.ends ≡ l.graph.nodes + 1;
  few : l.left ≤ length l.graph.arcs;
  filled : IsFilled g.N.Index.place_of g.A.Index.place_of l.graph.arcs l.left l.ends l.rows;
}

abbrev pub decreases-loop-left : goal.decreases-loop-left
decreases-loop-left g l = l.left
