use Rattle.relationships.proofs.Selecting
use Rattle.relationships.proofs.laws.selection.kept_law.Goals as goal

pub returns : goal.returns
returns c = Selecting.kept_law
