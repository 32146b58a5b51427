use Rattle.std.proofs.Common.{◌≡◌, take}
use Rattle.relationships.specs.Graph.{edges}
use Rattle.as_graph.proofs.CountLemmas.{counts_of}
use Rattle.as_graph.proofs.graph.AsGraph.support.Given as goal

abbrev pub invariant-loop-path : goal.invariant-loop-path
invariant-loop-path l = l.counts.items ≡ counts_of l.self (take l.path-index l.kept) (edges l.self)
