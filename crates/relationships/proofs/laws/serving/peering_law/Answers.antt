use Rattle.relationships.proofs.Edges
use Rattle.relationships.proofs.laws.serving.peering_law.Goals as goal

pub returns : goal.returns
returns c = Edges.peering_law
