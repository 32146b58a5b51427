use Rattle.relationships.proofs.Selecting
use Rattle.relationships.proofs.laws.selection.selection_law.Goals as goal

pub returns : goal.returns
returns c = Selecting.selection_law
