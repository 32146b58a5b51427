use Rattle.peering.proofs.Besides.{AreOpenedTo}
use Rattle.peering.proofs.opening.openings.Given as goal

abbrev pub invariant-loop-path : goal.invariant-loop-path
invariant-loop-path l = AreOpenedTo l.graph l.kept l.excluded l.path-index l.opened.items l.partners
