use Rattle.relationships.proofs.Preferring
use Rattle.relationships.proofs.laws.preference.maximal_law.Goals as goal

pub returns : goal.returns
returns c = Preferring.maximal_law
