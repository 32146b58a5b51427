use Rattle.as_graph.specs.Inside.{AreRowsOf}
use Rattle.as_graph.proofs.building.add_paths.Given as goal

abbrev pub invariant-loop-place : goal.invariant-loop-place
invariant-loop-place l = AreRowsOf l.paths l.place l.edges l.steps.items l.bounds.items
