use Rattle.peering.proofs.Besides.{IsOpenedTo}
use Rattle.peering.proofs.opening.open_along.Given as goal

abbrev pub invariant-loop-step : goal.invariant-loop-step
invariant-loop-step l = IsOpenedTo l.excluded l.steps l.fn.opened.items l.opened.items l.step-index l.is_some
