use Rattle.std.proofs.Common.{length}
use Rattle.tor_digraph.proofs.NodeSets.{AreLeft}
use Rattle.tor_digraph.proofs.node_set.NodeSet.clear.Given as goal

abbrev pub invariant-loop-node : goal.invariant-loop-node
invariant-loop-node l = AreLeft l.self-inside.nodes l.self-inside.marks.items l.fn.self.count

abbrev pub decreases-loop-node : goal.decreases-loop-node
decreases-loop-node l = length l.self-inside.nodes
