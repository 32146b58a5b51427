use Rattle.as_graph.specs.Inside.{ArePathsBetween}
use Rattle.as_graph.proofs.graph.AsGraph.put_paths_along.Given as goal

abbrev pub invariant-loop-place : goal.invariant-loop-place
invariant-loop-place l = ArePathsBetween l.self l.place l.ases.items l.bounds.items
