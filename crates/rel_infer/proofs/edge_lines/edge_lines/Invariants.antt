use Rattle.std.proofs.Common.{take}
use Rattle.relationships.specs.Graph.{edges}
use Rattle.rel_infer.specs.EdgeLines.{AreLinesOf}
use Rattle.rel_infer.proofs.edge_lines.edge_lines.Given as goal

abbrev pub invariant-loop-place : goal.invariant-loop-place
invariant-loop-place l = AreLinesOf (take l.place (edges l.graph)) (take l.place l.labels-2) (take l.place l.marks) (take l.place l.supports) l.lines.items
