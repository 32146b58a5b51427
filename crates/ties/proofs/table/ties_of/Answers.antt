use Rattle.std.proofs.Common.{◌∙◌, ◌<◌, All, drop, length, sym, ap, subst}
use Rattle.std.proofs.lemmas.Result.{IfOk-weaker}
use Rattle.relationships.specs.Selection.{IsServable}
use Rattle.as_graph.specs.Paths.{paths_at}
use Rattle.ties.specs.Behind.{AreTiesBehind}
use Rattle.ties.proofs.Tyings.{all_within, rows_at}
use Rattle.ties.proofs.table.ties_of.Goals as goal

pub ties_behind-requires-clause-there : goal.ties_behind-requires-clause-there
ties_behind-requires-clause-there c =
    let graph = c.args.graph.now in
    subst (All (λ path. path < length graph)) (sym (c.as_slice.ensures ∙ c.in_ok-first.ensures)) (all_within graph c.args.count c.requires.count)

pub ties_behind-requires-clause-servable : goal.ties_behind-requires-clause-servable
ties_behind-requires-clause-servable c =
    let graph = c.args.graph.now in
    subst IsServable (sym (ap (paths_at graph) (c.as_slice.ensures ∙ c.in_ok-first.ensures) ∙ rows_at graph c.args.count c.requires.count)) c.requires.servable

pub returns-clause-ties : goal.returns-clause-ties
returns-clause-ties c =
    let graph = c.args.graph.now in
    let count = c.args.count in
    IfOk-weaker c.ties_behind.result (AreTiesBehind graph (paths_at graph c.as_slice.result.now) count) (AreTiesBehind graph (drop count graph) count)
    (λ ts are. subst (λ rows. AreTiesBehind graph rows count ts) (ap (paths_at graph) (c.as_slice.ensures ∙ c.in_ok-first.ensures) ∙ rows_at graph count c.requires.count) are)
    c.ties_behind.ensures.ties
