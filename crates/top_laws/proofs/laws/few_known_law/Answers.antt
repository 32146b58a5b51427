use Rattle.top_laws.proofs.Fewness
use Rattle.top_laws.proofs.laws.few_known_law.Goals as goal

pub returns : goal.returns
returns c = Fewness.few_known_law
