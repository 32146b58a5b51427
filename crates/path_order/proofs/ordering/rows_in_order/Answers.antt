use Rattle.std.proofs.Common.{◌≡◌, ◌∙◌, ap, subst, sym}
use Rattle.path_table.specs.Rows.{row_paths, times_of}
use Rattle.path_table.specs.Inside.{counted_by}
use Rattle.path_table.proofs.TableLemmas.{paths_of-counted_by, times_of-counted_by}
use Rattle.path_order.specs.Orders.{ordered_behind}
use Rattle.path_order.proofs.NotedLemmas.{kept_all}
use Rattle.path_order.proofs.ordering.rows_in_order.Goals as goal

pub returns-in-Seen-clause-paths : goal.returns-in-Seen-clause-paths
returns-in-Seen-clause-paths c =
    let rows = c.args.rows in
    let all = counted_by rows c.args.times in
    subst (λ order. rows ≡ row_paths (ordered_behind order c.args.kept all)) (sym c.in-Seen.is)
    (sym (ap row_paths (kept_all c.args.kept all) ∙ paths_of-counted_by rows c.args.times c.requires.same))

pub returns-in-Seen-clause-times : goal.returns-in-Seen-clause-times
returns-in-Seen-clause-times c =
    let times = c.args.times in
    let all = counted_by c.args.rows times in
    subst (λ order. times ≡ times_of (ordered_behind order c.args.kept all)) (sym c.in-Seen.is)
    (sym (ap times_of (kept_all c.args.kept all) ∙ times_of-counted_by c.args.rows times c.requires.same))
