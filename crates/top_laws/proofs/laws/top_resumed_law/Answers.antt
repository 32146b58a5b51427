use Rattle.top_laws.proofs.Nobody
use Rattle.top_laws.proofs.laws.top_resumed_law.Goals as goal

pub returns : goal.returns
returns c = Nobody.top_resumed_law
