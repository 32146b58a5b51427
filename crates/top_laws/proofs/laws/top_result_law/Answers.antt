use Rattle.top_laws.proofs.Nobody
use Rattle.top_laws.proofs.laws.top_result_law.Goals as goal

pub returns : goal.returns
returns c = Nobody.top_result_law
