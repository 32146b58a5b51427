use Rattle.std.proofs.Common.{map}
use Rattle.std.proofs.lemmas.Result.{IfOk-weaker}
use Rattle.relationships.specs.Fates.{walk_of}
use Rattle.as_graph.specs.Paths.{paths_at}
use Rattle.asks.specs.Behind.{AreAsksBehind}
use Rattle.asks.specs.Asks.{AreAsksBy}
use Rattle.asks.proofs.Lines.{asks_of_kept}
use Rattle.asks.proofs.table.asks_behind.Goals as goal

pub returns-clause-asks : goal.returns-clause-asks
returns-clause-asks c =
    let graph = c.args.graph.now in
    let first = c.args.first.now in
    let walks = map walk_of c.in_ok-selection.selection.fates in
    let places = c.in_ok-selection.selection.selector.formula.paths in
    IfOk-weaker c.asks_in-asks.result (AreAsksBy graph (paths_at graph places)) (AreAsksBehind graph (paths_at graph first) c.args.count)
    (λ asks by. asks_of_kept graph first places c.args.count walks asks c.in_ok-selection.ensures.keeps c.in_ok-selection.ensures.kept by) c.asks_in-asks.ensures.asks
