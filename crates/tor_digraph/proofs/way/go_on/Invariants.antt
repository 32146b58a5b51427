use Rattle.std.proofs.Common.{List, length}
use Rattle.tor_digraph.specs.Back.{IsBack}
use Rattle.tor_digraph.specs.Walks.{IsWay}
use Rattle.tor_digraph.proofs.way.go_on.Given as goal

abbrev pub invariant-loop-step : goal.invariant-loop-step
invariant-loop-step g l = (arcs : List (g.row.N.Denot × g.row.N.Denot)) (start from end : g.row.N.Denot) → IsBack g.A.Index.place_of arcs from end l.fn.steps
    → IsWay g.A.Index.place_of arcs start from l.fn.way.nodes l.fn.way.arcs
    → (at : g.row.N.Denot) × IsWay g.A.Index.place_of arcs start at l.way.nodes l.way.arcs × IsBack g.A.Index.place_of arcs at end l.steps

abbrev pub decreases-loop-step : goal.decreases-loop-step
decreases-loop-step g l = length l.steps
