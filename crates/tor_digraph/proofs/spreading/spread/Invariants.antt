use Rattle.std.proofs.Common.{◌≡◌, ◌-◌}
use Rattle.tor_digraph.proofs.Spreadings.{IsSpreading}
use Rattle.tor_digraph.proofs.spreading.spread.Given as goal

abbrev pub invariant-loop-at : goal.invariant-loop-at
invariant-loop-at l = record {
  count : l.found.count ≡ l.rows.nodes;
  spreading : IsSpreading l.rows.arcs l.past.items l.fn.start l.fn.found.items l.found.items l.at;
}

abbrev pub decreases-loop-at : goal.decreases-loop-at
decreases-loop-at l = 18446744073709551616 - l.at
