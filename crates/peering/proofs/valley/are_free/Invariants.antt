use Rattle.std.proofs.Common.{◌≡◌, drop}
use Rattle.relationships.proofs.Deciding.{no_valley}
use Rattle.as_graph.specs.Steps.{slopes_by}
use Rattle.peering.proofs.Falling.{well}
use Rattle.peering.proofs.valley.are_free.Given as goal

abbrev pub invariant-loop-step : goal.invariant-loop-step
invariant-loop-step l = no_valley (slopes_by l.labels l.steps) ≡ well l.falling (slopes_by l.labels (drop l.step-index l.steps))
