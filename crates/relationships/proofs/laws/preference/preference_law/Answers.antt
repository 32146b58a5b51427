use Rattle.relationships.proofs.Preferring
use Rattle.relationships.proofs.laws.preference.preference_law.Goals as goal

pub returns : goal.returns
returns c = Preferring.preference_law
