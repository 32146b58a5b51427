use Rattle.std.proofs.Common.{ℕ, ◌<◌, length}
use Rattle.tor_clauses.specs.Literals.{opposite_node}
use Rattle.tor_digraph.specs.Trails.{StandsAt}
use Rattle.tor_clauses.specs.Rounds.{LeadsOn}
use Rattle.tor_clauses.proofs.rounding.go_home.Given as goal

abbrev pub invariant-loop-at : goal.invariant-loop-at
invariant-loop-at l = record {
  there : l.at < length l.trail.nodes.items;
  way : (from to : ℕ) → StandsAt l.trail.nodes.items l.fn.place from → StandsAt l.trail.nodes.items l.at to → LeadsOn l.fitted.formula.net.arcs l.fn.way l.way (opposite_node from) (opposite_node to);
}

abbrev pub decreases-loop-at : goal.decreases-loop-at
decreases-loop-at l = l.at
