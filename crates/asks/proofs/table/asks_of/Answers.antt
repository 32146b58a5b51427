use Rattle.std.proofs.Common.{◌∙◌, ◌<◌, All, drop, length, sym, ap, subst}
use Rattle.std.proofs.lemmas.Result.{IfOk-weaker}
use Rattle.relationships.specs.Selection.{IsServable}
use Rattle.as_graph.specs.Paths.{paths_at}
use Rattle.asks.specs.Behind.{AreAsksBehind}
use Rattle.ties.proofs.Tyings.{all_within, rows_at}
use Rattle.asks.proofs.table.asks_of.Goals as goal

pub asks_behind-requires-clause-there : goal.asks_behind-requires-clause-there
asks_behind-requires-clause-there c =
    let graph = c.args.graph.now in
    subst (All (λ path. path < length graph)) (sym (c.as_slice.ensures ∙ c.in_ok-first.ensures)) (all_within graph c.args.count c.requires.count)

pub asks_behind-requires-clause-servable : goal.asks_behind-requires-clause-servable
asks_behind-requires-clause-servable c =
    let graph = c.args.graph.now in
    subst IsServable (sym (ap (paths_at graph) (c.as_slice.ensures ∙ c.in_ok-first.ensures) ∙ rows_at graph c.args.count c.requires.count)) c.requires.servable

pub returns-clause-asks : goal.returns-clause-asks
returns-clause-asks c =
    let graph = c.args.graph.now in
    let count = c.args.count in
    IfOk-weaker c.asks_behind.result (AreAsksBehind graph (paths_at graph c.as_slice.result.now) count) (AreAsksBehind graph (drop count graph) count)
    (λ asks are. subst (λ rows. AreAsksBehind graph rows count asks) (ap (paths_at graph) (c.as_slice.ensures ∙ c.in_ok-first.ensures) ∙ rows_at graph count c.requires.count) are)
    c.asks_behind.ensures.asks
