use Rattle.relationships.proofs.Selecting
use Rattle.relationships.proofs.laws.selection.all_kept_law.Goals as goal

pub returns : goal.returns
returns c = Selecting.all_kept_law
