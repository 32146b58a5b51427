use Rattle.gao_prefs.proofs.SupportLemmas
use Rattle.gao_prefs.proofs.laws.support_law.Goals as goal

pub returns : goal.returns
returns c = SupportLemmas.support_law
