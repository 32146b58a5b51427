use Rattle.peering.proofs.Besides.{IsPairedTo}
use Rattle.peering.proofs.opening.add_pairs.Given as goal

abbrev pub invariant-loop-at : goal.invariant-loop-at
invariant-loop-at l = IsPairedTo l.excluded l.steps l.fn.partners l.partners l.at
