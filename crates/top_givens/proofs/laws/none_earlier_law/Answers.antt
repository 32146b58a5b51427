use Rattle.top_givens.proofs.Members
use Rattle.top_givens.proofs.laws.none_earlier_law.Goals as goal

pub returns : goal.returns
returns c = Members.none_earlier_law
