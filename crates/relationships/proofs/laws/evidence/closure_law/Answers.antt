use Rattle.relationships.proofs.Closures
use Rattle.relationships.proofs.laws.evidence.closure_law.Goals as goal

pub returns : goal.returns
returns c = Closures.closure_law
