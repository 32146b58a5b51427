use Rattle.tor_solve.proofs.Arcs
use Rattle.tor_solve.proofs.laws.decided_law.Goals as goal

pub returns : goal.returns
returns c = Arcs.decided_law
