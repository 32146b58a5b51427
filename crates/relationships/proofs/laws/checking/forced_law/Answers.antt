use Rattle.relationships.proofs.Checked
use Rattle.relationships.proofs.laws.checking.forced_law.Goals as goal

pub returns : goal.returns
returns c = Checked.forced_law
