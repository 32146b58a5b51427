use Rattle.relationships.specs.Graph.{edges}
use Rattle.asks.proofs.Lines.{ask_line_is}
use Rattle.asks.proofs.table.ask_line.Goals as goal

pub returns : goal.returns
returns c = ask_line_is (edges c.args.graph.now) c.args.ask.now c.edge-edge.result.low c.edge-edge.result.high c.edge-edge.ensures.pair
