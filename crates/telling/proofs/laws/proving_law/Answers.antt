use Rattle.telling.proofs.ProvingLemmas
use Rattle.telling.proofs.laws.proving_law.Goals as goal

pub returns : goal.returns
returns c = ProvingLemmas.proving_law
