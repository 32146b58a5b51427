use Rattle.tor_solve.proofs.Refutation
use Rattle.tor_solve.proofs.laws.refutation_law.Goals as goal

pub returns : goal.returns
returns c = Refutation.refutation_law
