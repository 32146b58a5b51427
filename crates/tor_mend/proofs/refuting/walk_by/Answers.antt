use Rattle.std.proofs.Common.{◌≡◌, Some, subst}
use Rattle.std.specs.Prelude.{slice_get}
use Rattle.tor_digraph.specs.Walks.{IsArc}
use Rattle.tor_mend.proofs.refuting.walk_by.Goals as goal

pub way_back-requires : goal.way_back-requires
way_back-requires c =
    let tail = c.ends-head.result.0 in
    let head = c.ends-head.result.1 in
    let arc : IsArc c.args.fitted.now.formula.net.arcs c.args.arc tail head =
    subst (λ net. slice_get net.arcs c.args.arc ≡ Some c.ends-head.result) c.digraph.ensures c.ends-head.ensures.arc in
    (tail, arc, c.requires.conflict.rest tail head arc)

pub refuting_walk-walk-requires-clause-there : goal.refuting_walk-walk-requires-clause-there
refuting_walk-walk-requires-clause-there c =
    let tail = c.ends-head.result.0 in
    let head = c.ends-head.result.1 in
    let arc : IsArc c.args.fitted.now.formula.net.arcs c.args.arc tail head =
    subst (λ net. slice_get net.arcs c.args.arc ≡ Some c.ends-head.result) c.digraph.ensures c.ends-head.ensures.arc in
    c.requires.conflict.there tail head arc
