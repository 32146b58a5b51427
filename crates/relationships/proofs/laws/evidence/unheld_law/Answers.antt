use Rattle.relationships.proofs.Forcing
use Rattle.relationships.proofs.laws.evidence.unheld_law.Goals as goal

pub returns : goal.returns
returns c = Forcing.unheld_law
