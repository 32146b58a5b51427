use Rattle.std.proofs.Common.{map}
use Rattle.std.proofs.lemmas.Result.{IfOk-weaker}
use Rattle.relationships.specs.Fates.{walk_of}
use Rattle.as_graph.specs.Paths.{paths_at}
use Rattle.ties.specs.Behind.{AreTiesBehind}
use Rattle.ties.specs.Ties.{AreTiesBy}
use Rattle.ties.proofs.Tyings.{ties_of_kept}
use Rattle.ties.proofs.table.ties_behind.Goals as goal

pub returns-clause-ties : goal.returns-clause-ties
returns-clause-ties c =
    let graph = c.args.graph.now in
    let first = c.args.first.now in
    let walks = map walk_of c.in_ok-selection.selection.fates in
    let places = c.in_ok-selection.selection.selector.formula.paths in
    IfOk-weaker c.ties_in-ties.result (AreTiesBy graph (paths_at graph places)) (AreTiesBehind graph (paths_at graph first) c.args.count)
    (λ ts by. ties_of_kept graph first places c.args.count walks ts c.in_ok-selection.ensures.keeps c.in_ok-selection.ensures.kept by) c.ties_in-ties.ensures.ties
