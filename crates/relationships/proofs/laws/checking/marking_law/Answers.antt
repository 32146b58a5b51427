use Rattle.relationships.proofs.Checked
use Rattle.relationships.proofs.laws.checking.marking_law.Goals as goal

pub returns : goal.returns
returns c = Checked.marking_law
