use Rattle.std.proofs.Common.{◌≡◌, ◌-◌, ◌≤◌, length}
use Rattle.tor_digraph.specs.Trails.{IsTrail}
use Rattle.order_trials.specs.Trials.{ArePassed}
use Rattle.order_trials.proofs.trial.search.Given as goal

abbrev pub invariant-loop-next : goal.invariant-loop-next
invariant-loop-next l = record {
  count : l.trail.nodes.count ≡ l.problem.formula.net.nodes;
  trial : IsTrail l.problem.formula.net.arcs l.fn.start l.trail;
  within : l.next ≤ length l.trail.nodes.items;
  passed : ArePassed l.problem.formula.net.arcs l.problem.held l.past.items l.trail.nodes.items l.next;
}

abbrev pub decreases-loop-next : goal.decreases-loop-next
decreases-loop-next l = 18446744073709551616 - l.next
