use Rattle.top_laws.proofs.StillMet
use Rattle.top_laws.proofs.laws.more_givens_law.Goals as goal

pub returns : goal.returns
returns c = StillMet.more_givens_law
