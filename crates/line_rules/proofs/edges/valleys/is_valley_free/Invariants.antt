use Rattle.std.proofs.Common.{◌≡◌, drop}
use Rattle.relationships.proofs.Deciding.{no_valley}
use Rattle.line_rules.specs.PathSteps.{line_slopes}
use Rattle.line_rules.proofs.SlopeLemmas.{well}
use Rattle.line_rules.proofs.edges.valleys.is_valley_free.Given as goal

abbrev pub invariant-loop-step : goal.invariant-loop-step
invariant-loop-step l = no_valley (line_slopes l.labels l.steps) ≡ well l.falling (line_slopes l.labels (drop l.step-index l.steps))
