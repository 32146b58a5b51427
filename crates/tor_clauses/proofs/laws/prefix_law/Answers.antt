use Rattle.tor_clauses.proofs.Prefixes
use Rattle.tor_clauses.proofs.laws.prefix_law.Goals as goal

pub returns : goal.returns
returns c = Prefixes.prefix_law
