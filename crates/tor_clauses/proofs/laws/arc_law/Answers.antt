use Rattle.tor_clauses.proofs.Exacts
use Rattle.tor_clauses.proofs.laws.arc_law.Goals as goal

pub returns : goal.returns
returns c = Exacts.arc_law
