use Rattle.relationships.proofs.Edges
use Rattle.relationships.proofs.laws.serving.reading_law.Goals as goal

pub returns : goal.returns
returns c = Edges.reading_law
