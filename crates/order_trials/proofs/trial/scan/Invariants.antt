use Rattle.std.proofs.Common.{◌≡◌}
use Rattle.tor_digraph.specs.Spreading.{Stays}
use Rattle.tor_digraph.specs.Trails.{StaysTrail}
use Rattle.order_trials.specs.Trials.{ArePassed}
use Rattle.order_trials.proofs.Trying.{AreHeadsPassed}
use Rattle.order_trials.proofs.trial.scan.Given as goal

abbrev pub invariant-loop-entry : goal.invariant-loop-entry
invariant-loop-entry l = record {
  count : l.trail.nodes.count ≡ l.problem.formula.net.nodes;
  kept : Stays l.fn.trail.nodes.items l.trail.nodes.items;
  trial : StaysTrail l.problem.formula.net.arcs l.fn.trail l.trail;
  before : ArePassed l.problem.formula.net.arcs l.problem.held l.past.items l.trail.nodes.items l.fn.place;
  heads : AreHeadsPassed l.problem.formula.net.arcs l.problem.held l.past.items l.entry-items l.entry-index l.trail.nodes.items l.fn.place;
}
