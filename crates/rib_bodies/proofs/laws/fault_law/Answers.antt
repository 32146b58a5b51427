use Rattle.rib_bodies.proofs.FaultLaws.{cut_law, tail_law}
use Rattle.rib_bodies.proofs.laws.fault_law.Goals as goal

pub returns-clause-tail : goal.returns-clause-tail
returns-clause-tail c = tail_law

pub returns-clause-cut : goal.returns-clause-cut
returns-clause-cut c = cut_law
