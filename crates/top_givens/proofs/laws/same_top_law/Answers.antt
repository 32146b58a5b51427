use Rattle.top_givens.proofs.Members
use Rattle.top_givens.proofs.laws.same_top_law.Goals as goal

pub returns : goal.returns
returns c = Members.same_top_law
