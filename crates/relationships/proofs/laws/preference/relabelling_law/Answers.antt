use Rattle.relationships.proofs.Preferring
use Rattle.relationships.proofs.laws.preference.relabelling_law.Goals as goal

pub returns : goal.returns
returns c = Preferring.relabelling_law
