use Rattle.std.proofs.Common.{List}
use Rattle.std.specs.Prelude.{slice_get}
use Rattle.tor_digraph.specs.Found.{IsFound, HasTreeArcs, depth_of}
use Rattle.tor_digraph.specs.Back.{IsBack}
use Rattle.tor_digraph.proofs.way.go_back.Given as goal

abbrev pub invariant-loop-tail : goal.invariant-loop-tail
invariant-loop-tail g l = record {
  found : IsFound g.N.Index.place_of l.found.items l.root;
  back : (arcs : List (g.row.N.Denot × g.row.N.Denot)) → HasTreeArcs g.N.Index.place_of g.A.Index.place_of arcs l.found.items → IsBack g.A.Index.place_of arcs l.root l.fn.node l.steps;
}

abbrev pub decreases-loop-tail : goal.decreases-loop-tail
decreases-loop-tail g l = depth_of (slice_get l.found.items (g.N.Index.place_of l.root))
