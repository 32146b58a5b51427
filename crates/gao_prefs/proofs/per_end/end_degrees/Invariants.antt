use Rattle.std.proofs.Common.{◌≡◌, take, map}
use Rattle.relationships.specs.Graph.{edges}
use Rattle.gao_prefs.specs.Ends.{degrees_of}
use Rattle.gao_prefs.proofs.per_end.end_degrees.Given as goal

abbrev pub invariant-loop-place : goal.invariant-loop-place
invariant-loop-place l = l.degrees.items ≡ map (degrees_of l.graph) (take l.place (edges l.graph))
