use Rattle.std.proofs.Common.{◌≡◌, ◌≤◌, length, take}
use Rattle.tor_digraph.specs.Links.{IsChained}
use Rattle.tor_digraph.proofs.digraph.Digraph.undo_to.Given as goal

abbrev pub invariant-loop-left : goal.invariant-loop-left
invariant-loop-left g l = record {
  many : l.mark.arcs ≤ l.left;
  within : l.left ≤ length l.self-inside.ends.items;
  ends : l.self-inside.ends.items ≡ l.fn.self.arcs;
  nodes : length l.self-inside.first.items ≡ l.fn.self.nodes;
  linked : IsChained g.N.Index.place_of (λ place. place) l.self-inside.first.items (take l.left l.self-inside.ends.items) (take l.left l.self-inside.links.items);
}

abbrev pub decreases-loop-left : goal.decreases-loop-left
decreases-loop-left g l = l.left
