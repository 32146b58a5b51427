use Rattle.top_givens.proofs.Members
use Rattle.top_givens.proofs.laws.resumed_top_law.Goals as goal

pub returns : goal.returns
returns c = Members.resumed_top_law
