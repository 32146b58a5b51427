use Rattle.tor_clauses.proofs.Repairs
use Rattle.tor_clauses.proofs.laws.cut_law.Goals as goal

pub returns : goal.returns
returns c = Repairs.cut_law
