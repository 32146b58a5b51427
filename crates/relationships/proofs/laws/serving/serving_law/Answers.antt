use Rattle.relationships.proofs.Serving
use Rattle.relationships.proofs.laws.serving.serving_law.Goals as goal

pub returns : goal.returns
returns c = Serving.serving_law
