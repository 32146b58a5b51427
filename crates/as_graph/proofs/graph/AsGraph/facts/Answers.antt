use Rattle.std.proofs.Common.{◌<◌, ◌^◌, length, subst}
use Rattle.relationships.specs.Graph.{edges}
use Rattle.as_graph.proofs.graph.AsGraph.facts.Goals as goal

pub returns-clause-edges : goal.returns-clause-edges
returns-clause-edges c =
    subst (λ paths. length (edges paths) < 2 ^ 26) c.self.view_is c.self.invariant.few_edges
