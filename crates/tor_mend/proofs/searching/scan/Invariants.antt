use Rattle.std.proofs.Common.{◌≡◌}
use Rattle.tor_digraph.specs.Search.{steps_of}
use Rattle.tor_digraph.specs.Spreading.{Stays}
use Rattle.tor_digraph.specs.Trails.{StaysTrail}
use Rattle.tor_mend.specs.Searches.{StayUnheld}
use Rattle.tor_mend.proofs.Scans.{IsScan}
use Rattle.tor_mend.proofs.searching.scan.Given as goal

abbrev pub invariant-loop-next : goal.invariant-loop-next
invariant-loop-next l = record {
  count : l.trail.nodes.count ≡ l.digraph.nodes;
  stays : Stays l.fn.trail.nodes.items l.trail.nodes.items;
  trail : StaysTrail l.digraph.arcs l.fn.trail l.trail;
  unheld : StayUnheld l.ends l.fn.trail.nodes.items l.trail.nodes.items;
  scan : IsScan l.digraph.arcs l.ends l.trail.nodes.items l.place l.next;
}

abbrev pub decreases-loop-next : goal.decreases-loop-next
decreases-loop-next l = steps_of (λ a. a) l.next
