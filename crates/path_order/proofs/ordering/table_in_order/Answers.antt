use Rattle.std.proofs.Common.{◌≡◌, ◌∙◌, IfOk, List, ap₂, subst}
use Rattle.path_table.specs.Rows.{Counted, row_paths, times_of}
use Rattle.path_table.specs.Inside.{counted_by}
use Rattle.path_order.specs.Orders.{ordered_behind}
use Rattle.path_order.proofs.NotedLemmas.{counted_again}
use Rattle.path_order.proofs.ordering.table_in_order.Goals as goal

pub returns-clause-paths : goal.returns-clause-paths
returns-clause-paths c =
    let is = ap₂ counted_by c.into_rows-rows.ensures.paths c.into_rows-rows.ensures.times ∙ counted_again c.args.table.rows in
    subst (λ (rows : List Counted). IfOk c.rows_in_order.result (λ found. found.0 ≡ row_paths (ordered_behind c.args.order c.args.kept rows))) is c.rows_in_order.ensures.paths

pub returns-clause-times : goal.returns-clause-times
returns-clause-times c =
    let is = ap₂ counted_by c.into_rows-rows.ensures.paths c.into_rows-rows.ensures.times ∙ counted_again c.args.table.rows in
    subst (λ (rows : List Counted). IfOk c.rows_in_order.result (λ found. found.1 ≡ times_of (ordered_behind c.args.order c.args.kept rows))) is c.rows_in_order.ensures.times
