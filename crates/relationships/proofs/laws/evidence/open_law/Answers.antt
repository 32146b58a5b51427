use Rattle.relationships.proofs.Forcing
use Rattle.relationships.proofs.laws.evidence.open_law.Goals as goal

pub returns : goal.returns
returns c = Forcing.open_law
