use Rattle.std.proofs.Common.{rules, ◌≡◌, ap, arith, length, slice_get, Some, List, sum_by}
use Rattle.tor_arena.proofs.RowLemmas.{sum-rows_between}
use Rattle.tor_arena.proofs.rows.Rows.item_count.Goals as goal

pub overflow_sub-result : goal.overflow_sub-result
overflow_sub-result g c =
    let items = c.self.inside.items.items in
    let bounds = c.self.inside.bounds.items in
    let first : slice_get bounds 0 ≡ Some c.in-Some.start.now = search rules in
    let sum = sum-rows_between items bounds c.in-Some.start.now first c.self.invariant.1 in
    let many : c.len.result ≡ length items = search rules in
    omega (arith, sum, many)

pub returns-in-Some : goal.returns-in-Some
returns-in-Some g c =
    let items = c.self.inside.items.items in
    let bounds = c.self.inside.bounds.items in
    let first : slice_get bounds 0 ≡ Some c.in-Some.start.now = search rules in
    let sum = sum-rows_between items bounds c.in-Some.start.now first c.self.invariant.1 in
    let many : c.len.result ≡ length items = search rules in
    let same = ap (λ (rows : List (List g.row.T.Denot)). sum_by length rows) c.self.view_is in
    omega (arith, sum, many, same)
