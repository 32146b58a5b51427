use Rattle.relationships.proofs.Edges
use Rattle.relationships.proofs.laws.serving.relaxing_law.Goals as goal

pub returns : goal.returns
returns c = Edges.relaxing_law
