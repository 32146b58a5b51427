use Rattle.std.proofs.Common.{◌≡◌, length}
use Rattle.std.specs.Prelude.{List}
use Rattle.tor_digraph.specs.Search.{IsSearch, IsGrowth, IsLater, work}
use Rattle.tor_digraph.proofs.search.search.Given as goal

abbrev pub invariant-loop-top : goal.invariant-loop-top
invariant-loop-top g l = record {
  many : length l.found.items ≡ l.graph.nodes;
  later : IsLater g.N.Index.place_of l.fn.found.items l.found.items;
  search : IsSearch g.N.Index.place_of g.A.Index.place_of l.graph.arcs l.found.items l.nodes l.stack;
  growth : (start : g.row.N.Denot) (old : List g.row.N.Denot) → IsGrowth l.graph.arcs start old l.fn.nodes l.fn.stack → IsGrowth l.graph.arcs start old l.nodes l.stack;
}

abbrev pub decreases-loop-top : goal.decreases-loop-top
decreases-loop-top g l = work g.A.Index.place_of (length l.graph.arcs) l.found.items l.stack
