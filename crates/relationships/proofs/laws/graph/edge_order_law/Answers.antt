use Rattle.relationships.proofs.Neighbours
use Rattle.relationships.proofs.laws.graph.edge_order_law.Goals as goal

pub returns : goal.returns
returns c = Neighbours.edge_order_law
