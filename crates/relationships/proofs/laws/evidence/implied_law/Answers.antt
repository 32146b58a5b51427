use Rattle.relationships.proofs.Forcing
use Rattle.relationships.proofs.laws.evidence.implied_law.Goals as goal

pub returns : goal.returns
returns c = Forcing.implied_law
