use Rattle.relationships.proofs.Serving
use Rattle.relationships.proofs.laws.graph.differing_law.Goals as goal

pub returns : goal.returns
returns c = Serving.differ_if_distinct
