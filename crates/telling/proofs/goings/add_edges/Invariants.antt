use Rattle.std.proofs.Common.{◌≤◌}
use Rattle.telling.specs.Labelling.{HasEdgesTo}
use Rattle.telling.proofs.goings.add_edges.Given as goal

-- the edges of the steps so far are there
abbrev pub invariant-loop-at : goal.invariant-loop-at
invariant-loop-at l = (1 ≤ l.at) × HasEdgesTo l.path l.at l.table
