use Rattle.tor_clauses.proofs.Repairs
use Rattle.tor_clauses.proofs.laws.repair_law.Goals as goal

pub returns : goal.returns
returns c = Repairs.repair_law
