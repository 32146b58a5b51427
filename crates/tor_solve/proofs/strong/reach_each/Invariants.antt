use Rattle.std.proofs.Common.{◌<◌}
use Rattle.tor_digraph.specs.Closing.{Has}
use Rattle.tor_digraph.specs.Reached.{IsSearched}
use Rattle.tor_solve.proofs.strong.reach_each.Given as goal

abbrev pub invariant-loop-place : goal.invariant-loop-place
invariant-loop-place g l = record {
  searched : IsSearched g.N.Index.place_of g.A.Index.place_of l.graph.nodes l.graph.arcs l.reached;
  all : (x : g.row.N.Denot) → g.N.Index.place_of x < l.place → Has l.reached.nodes x;
}
