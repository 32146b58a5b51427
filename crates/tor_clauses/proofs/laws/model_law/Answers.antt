use Rattle.tor_clauses.proofs.Models
use Rattle.tor_clauses.proofs.laws.model_law.Goals as goal

pub returns : goal.returns
returns c = Models.model_law
