use Rattle.relationships.proofs.Closures
use Rattle.relationships.proofs.laws.evidence.consistency_law.Goals as goal

pub returns : goal.returns
returns c = Closures.consistency_law
