use Rattle.std.proofs.Common.{take, flat_map}
use Rattle.relationships.specs.Graph.{edges_on}
use Rattle.top_givens.specs.Binding.{SettlesMore}
use Rattle.top_givens.proofs.settling.settle_paths.Given as goal

abbrev pub invariant-loop-place : goal.invariant-loop-place
invariant-loop-place l = SettlesMore l.top (flat_map edges_on (take l.place l.paths)) l.fn.settled l.settled
