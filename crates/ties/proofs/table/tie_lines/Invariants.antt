use Rattle.std.proofs.Common.{◌≡◌, map, take}
use Rattle.relationships.specs.Graph.{edges}
use Rattle.ties.specs.Ties.{tie_line_of}
use Rattle.ties.proofs.table.tie_lines.Given as goal

abbrev pub invariant-loop-tie : goal.invariant-loop-tie
invariant-loop-tie l = l.lines ≡ map (tie_line_of (edges l.graph)) (take l.tie-index l.ties)
