use Rattle.peering.proofs.Along.{IsExcludedTo}
use Rattle.peering.proofs.excluding.exclude_along.Given as goal

abbrev pub invariant-loop-at : goal.invariant-loop-at
invariant-loop-at l = IsExcludedTo l.ends l.steps l.fn.excluded.items l.excluded.items l.at l.up
