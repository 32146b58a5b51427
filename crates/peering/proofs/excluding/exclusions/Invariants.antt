use Rattle.peering.proofs.Along.{AreExcludedTo}
use Rattle.peering.proofs.excluding.exclusions.Given as goal

abbrev pub invariant-loop-path : goal.invariant-loop-path
invariant-loop-path l = AreExcludedTo l.graph l.kept l.ends l.path-index l.excluded.items
