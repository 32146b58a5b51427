use Rattle.top_laws.proofs.StillMet
use Rattle.top_laws.proofs.laws.top_more_law.Goals as goal

pub returns : goal.returns
returns c = StillMet.top_more_law
