use Rattle.std.proofs.Common.{ℕ, List, take, flat_map}
use Rattle.relationships.specs.declared.given.Given.{Given}
use Rattle.relationships.specs.Graph.{edges_on}
use Rattle.top_givens.specs.Binding.{AreBound}
use Rattle.top_givens.proofs.binding.bind_paths.Given as goal

abbrev pub invariant-loop-place : goal.invariant-loop-place
invariant-loop-place l =
    (named : List (ℕ × ℕ)) (start : List Given) → AreBound l.top named start (flat_map edges_on (take l.fn.first l.paths)) l.fn.settled l.fn.givens →
    AreBound l.top named start (flat_map edges_on (take l.place l.paths)) l.settled l.givens
