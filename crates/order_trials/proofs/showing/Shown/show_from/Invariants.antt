use Rattle.std.proofs.Common.{◌-◌}
use Rattle.tor_digraph.specs.Spreading.{Stays}
use Rattle.order_trials.specs.Showing.{IsShowing, AreClosedTo}
use Rattle.order_trials.proofs.showing.Shown.show_from.Given as goal

abbrev pub invariant-loop-at : goal.invariant-loop-at
invariant-loop-at l = record {
  showing : IsShowing l.problem l.self;
  closed : AreClosedTo l.problem l.at l.self.nodes.items;
  kept : Stays l.fn.self.nodes.items l.self.nodes.items;
}

abbrev pub decreases-loop-at : goal.decreases-loop-at
decreases-loop-at l = 18446744073709551616 - l.at
