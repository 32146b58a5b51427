use Rattle.relationships.proofs.Closures
use Rattle.relationships.proofs.laws.evidence.allowed_law.Goals as goal

pub returns : goal.returns
returns c = Closures.allowed_law
