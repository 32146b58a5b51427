use Rattle.tor_digraph.proofs.Filling.{AreCounted, AreSummed}
use Rattle.tor_digraph.proofs.rows.count_ends.Given as goal

abbrev pub invariant-loop-place : goal.invariant-loop-place
invariant-loop-place g l = AreCounted g.N.Index.place_of l.graph.arcs l.graph.nodes l.place l.ends

abbrev pub invariant-loop-place-2 : goal.invariant-loop-place-2
invariant-loop-place-2 g l = AreSummed g.N.Index.place_of l.graph.arcs l.graph.nodes l.place l.sum l.ends
