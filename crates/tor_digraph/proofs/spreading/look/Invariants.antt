use Rattle.std.proofs.Common.{◌≡◌}
use Rattle.tor_digraph.proofs.Spreadings.{IsLooking}
use Rattle.tor_digraph.proofs.spreading.look.Given as goal

abbrev pub invariant-loop-entry : goal.invariant-loop-entry
invariant-loop-entry l = record {
  count : l.found.count ≡ l.rows.nodes;
  looking : IsLooking l.rows.arcs l.past.items l.fn.tail l.entry-items l.entry-index l.fn.found.items l.found.items;
}
