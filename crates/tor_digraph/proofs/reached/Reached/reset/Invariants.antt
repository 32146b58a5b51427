use Rattle.std.proofs.Common.{◌<◌, length}
use Rattle.tor_digraph.specs.Closing.{Has}
use Rattle.tor_digraph.specs.Found.{IsFound}
use Rattle.tor_digraph.proofs.reached.Reached.reset.Given as goal

abbrev pub invariant-loop-node : goal.invariant-loop-node
invariant-loop-node g l = record {
  inside : (x : g.row.N.Denot) → Has l.self-inside.nodes x → g.N.Index.place_of x < length l.self-inside.found.items;
  seen : (x : g.row.N.Denot) → IsFound g.N.Index.place_of l.self-inside.found.items x → Has l.self-inside.nodes x;
}

abbrev pub decreases-loop-node : goal.decreases-loop-node
decreases-loop-node g l = length l.self-inside.nodes
