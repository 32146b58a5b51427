use Rattle.std.proofs.Common.{◌≡◌, ℕ, ◌+◌, ◌≤◌, Some, length}
use Rattle.std.specs.Prelude.{slice_get}
use Rattle.tor_digraph.specs.Closing.{Has}
use Rattle.tor_digraph.specs.Reached.{IsSearched}
use Rattle.tor_solve.specs.Classes.{IsClassed}
use Rattle.tor_solve.proofs.strong.class_each.Given as goal

abbrev pub invariant-loop-left : goal.invariant-loop-left
invariant-loop-left g l = record {
  searched : IsSearched g.N.Index.place_of g.A.Index.place_of l.other.nodes l.other.arcs l.reached;
  many : length l.classes.items ≡ l.other.nodes;
  later : (k : ℕ) (x : g.row.N.Denot) → l.left ≤ k → slice_get l.order k ≡ Some x → Has l.reached.nodes x;
  classed : IsClassed g.N.Index.place_of l.graph.arcs l.reached.nodes l.classes.items l.count;
  room : l.count + l.left ≤ length l.order;
}
