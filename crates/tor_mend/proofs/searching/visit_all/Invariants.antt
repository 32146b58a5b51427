use Rattle.std.proofs.Common.{◌≡◌, ◌-◌, ◌≤◌, length}
use Rattle.tor_digraph.specs.Trails.{IsTrail}
use Rattle.tor_mend.specs.Searches.{AreUnheld, ArePassed}
use Rattle.tor_mend.proofs.searching.visit_all.Given as goal

abbrev pub invariant-loop-next : goal.invariant-loop-next
invariant-loop-next l = record {
  count : l.trail.nodes.count ≡ l.digraph.nodes;
  trail : IsTrail l.digraph.arcs l.fn.start l.trail;
  unheld : AreUnheld l.ends l.trail.nodes.items;
  within : l.next ≤ length l.trail.nodes.items;
  passed : ArePassed l.digraph.arcs l.ends l.trail.nodes.items l.next;
}

abbrev pub decreases-loop-next : goal.decreases-loop-next
decreases-loop-next l = 18446744073709551616 - l.next
