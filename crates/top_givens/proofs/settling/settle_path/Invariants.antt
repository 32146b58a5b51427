use Rattle.std.proofs.Common.{take}
use Rattle.relationships.specs.Graph.{edges_on}
use Rattle.top_givens.specs.Binding.{SettlesMore}
use Rattle.top_givens.proofs.settling.settle_path.Given as goal

abbrev pub invariant-loop-place : goal.invariant-loop-place
invariant-loop-place l = SettlesMore l.top (edges_on (take l.place l.path)) l.fn.settled l.settled
