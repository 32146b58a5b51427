use Rattle.std.proofs.Common.{◌≡◌, ◌-◌, [], Contains}
use Rattle.tor_digraph.specs.Trails.{IsTrail}
use Rattle.tor_digraph.proofs.Spreadings.{IsSpreading}
use Rattle.tor_orient.proofs.finding.find.Given as goal

abbrev pub invariant-loop-next : goal.invariant-loop-next
invariant-loop-next l = record {
  count : l.tried.nodes.count ≡ l.rows.nodes;
  trail : IsTrail l.rows.arcs l.fn.start l.tried;
  spreading : IsSpreading l.rows.arcs l.settled.items l.fn.start [] l.tried.nodes.items l.next;
  unmet : Contains l.tried.nodes.items l.fn.end → ⊥;
}

abbrev pub decreases-loop-next : goal.decreases-loop-next
decreases-loop-next l = 18446744073709551616 - l.next
