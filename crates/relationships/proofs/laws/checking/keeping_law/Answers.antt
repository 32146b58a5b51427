use Rattle.relationships.proofs.Checked
use Rattle.relationships.proofs.laws.checking.keeping_law.Goals as goal

pub returns : goal.returns
returns c = Checked.keeping_law
