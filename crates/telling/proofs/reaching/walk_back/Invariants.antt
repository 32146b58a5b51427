use Rattle.std.proofs.Common.{◌≤◌, length}
use Rattle.telling.specs.Reaching.{IsBack}
use Rattle.telling.proofs.reaching.walk_back.Given as goal

-- the walk leads back as far as this place of the way
abbrev pub invariant-loop-at : goal.invariant-loop-at
invariant-loop-at l = (l.at ≤ length l.way.arcs) × IsBack l.file l.all.edges l.way.nodes l.probe.over l.probe.under l.at l.walk

abbrev pub decreases-loop-at : goal.decreases-loop-at
decreases-loop-at l = l.at
