use Rattle.top_givens.proofs.Members
use Rattle.top_givens.proofs.laws.few_top_law.Goals as goal

pub returns : goal.returns
returns c = Members.few_top_law
