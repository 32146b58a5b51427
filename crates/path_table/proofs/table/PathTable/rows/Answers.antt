use Rattle.std.proofs.Common.{◌≤◌, ◌^◌, IsTrue, All, length, ◌∙◌, ap, sym, subst, arith}
use Rattle.std.specs.Prelude.{sum_by}
use Rattle.std.specs.List.{list_all}
use Rattle.path_clean.specs.Paths.{is_cleaned}
use Rattle.path_table.specs.Rows.{row_paths, times_of, numbers_in}
use Rattle.path_table.proofs.TableLemmas.{paths_of-counted_by, times_of-counted_by, numbers_in-counted_by, all_some}
use Rattle.path_clean.proofs.GraphPaths.{several, apart}
use Rattle.path_table.proofs.table.PathTable.rows.Goals as goal

pub returns-clause-paths : goal.returns-clause-paths
returns-clause-paths c =
    c.rows.ensures ∙ sym (paths_of-counted_by c.self.inside.paths.rows c.self.inside.counts.items c.self.invariant.same) ∙ ap (λ t. row_paths t.rows) c.self.view_is

pub returns-clause-numbers : goal.returns-clause-numbers
returns-clause-numbers c =
    let sum = numbers_in-counted_by c.self.inside.paths.rows c.self.inside.counts.items c.self.invariant.same in
    let seen = ap (λ t. numbers_in t.rows) c.self.view_is in
    let kept = c.self.invariant.sum in
    let short = c.self.invariant.short in
    subst (λ n. n ≤ 2 ^ 26) (kept ∙ sym sum ∙ seen) short

pub returns-clause-sum : goal.returns-clause-sum
returns-clause-sum c =
    ap (sum_by length) c.rows.ensures ∙ sym (numbers_in-counted_by c.self.inside.paths.rows c.self.inside.counts.items c.self.invariant.same) ∙ ap (λ t. numbers_in t.rows) c.self.view_is

pub returns-clause-several : goal.returns-clause-several
returns-clause-several c = several _ (subst (λ paths. IsTrue (list_all is_cleaned paths)) (sym c.rows.ensures) c.self.invariant.clean)

pub returns-clause-apart : goal.returns-clause-apart
returns-clause-apart c = apart _ (subst (λ paths. IsTrue (list_all is_cleaned paths)) (sym c.rows.ensures) c.self.invariant.clean)

pub returns-clause-few : goal.returns-clause-few
returns-clause-few c =
    let same = ap length c.rows.ensures in
    let few = c.self.invariant.few in
    let bound = c.self.invariant.bound in
    omega (arith, same, few, bound)

pub returns-clause-seen : goal.returns-clause-seen
returns-clause-seen c =
    subst (All (λ times. 1 ≤ times))
    (sym (times_of-counted_by c.self.inside.paths.rows c.self.inside.counts.items c.self.invariant.same) ∙ ap (λ t. times_of t.rows) c.self.view_is)
    (all_some c.self.inside.counts.items c.self.invariant.some)
