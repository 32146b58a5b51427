use Rattle.relationships.proofs.Checked
use Rattle.relationships.proofs.laws.checking.graph_rules_behind_law.Goals as goal

pub returns : goal.returns
returns c = Checked.graph_rules_behind_law
