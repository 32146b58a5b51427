use Rattle.top_laws.proofs.Nobody
use Rattle.top_laws.proofs.laws.top_accepted_law.Goals as goal

pub returns : goal.returns
returns c = Nobody.top_accepted_law
