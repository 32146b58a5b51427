use Rattle.path_order.specs.Orders.{ordered_behind}
use Rattle.path_order.specs.TableRows.{AreTableRows}
use Rattle.path_order.proofs.KeptLemmas.{behind_moves, rows_moved, held_is, held_rows}
use Rattle.path_order.proofs.holding.DistinctPaths.of_table.Goals as goal

pub invariant_of-result : goal.invariant_of-result
invariant_of-result c =
    let rows = c.args.table.rows in
    let facts = c.facts.ensures in
    let are : AreTableRows rows = record { clean = facts.clean; seen = facts.seen; once = facts.once; few = facts.few; numbers = facts.numbers } in
    let ordered = ordered_behind c.args.order c.args.kept rows in
    held_rows ordered c.in-Ok.paths c.in-Ok.counts c.in-Ok.ensures.paths c.in-Ok.ensures.times (rows_moved rows ordered (behind_moves c.args.order c.args.kept rows) are)

pub returns-in-Ok : goal.returns-in-Ok
returns-in-Ok c =
    held_is (ordered_behind c.args.order c.args.kept c.args.table.rows) c.in-Ok.paths c.in-Ok.counts c.in-Ok.ensures.paths c.in-Ok.ensures.times
