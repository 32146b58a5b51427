use Rattle.relationships.specs.Graph.{edges}
use Rattle.ties.proofs.Tyings.{line_is}
use Rattle.ties.proofs.table.tie_line.Goals as goal

pub returns : goal.returns
returns c = line_is (edges c.args.graph.now) c.args.tie.now c.edge-edge.result.low c.edge-edge.result.high c.edge-edge.ensures.pair
