use Rattle.std.proofs.Common.{◌≤◌, ◌^◌, IsTrue, length, All, ◌∙◌, ap, sym, subst}
use Rattle.std.specs.Prelude.{sum_by}
use Rattle.std.specs.List.{list_all}
use Rattle.tor_arena.specs.Distinct.{AllDistinct}
use Rattle.path_clean.specs.Paths.{is_cleaned}
use Rattle.path_table.specs.Rows.{none_twice}
use Rattle.path_table.proofs.table.PathTable.facts.Goals as goal

pub returns-clause-clean : goal.returns-clause-clean
returns-clause-clean c = subst (λ paths. IsTrue (list_all is_cleaned paths)) c.rows.ensures.paths c.rows.ensures.clean

pub returns-clause-several : goal.returns-clause-several
returns-clause-several c = subst (All (λ path. 2 ≤ length path)) c.rows.ensures.paths c.rows.ensures.several

pub returns-clause-apart : goal.returns-clause-apart
returns-clause-apart c = subst (All AllDistinct) c.rows.ensures.paths c.rows.ensures.apart

pub returns-clause-once : goal.returns-clause-once
returns-clause-once c = subst (λ paths. IsTrue (none_twice paths)) c.rows.ensures.paths c.rows.ensures.once

pub returns-clause-few : goal.returns-clause-few
returns-clause-few c = subst (λ paths. length paths ≤ 2 ^ 23) c.rows.ensures.paths c.rows.ensures.few

pub returns-clause-numbers : goal.returns-clause-numbers
returns-clause-numbers c =
    subst (λ n. n ≤ 2 ^ 26) (sym c.rows.ensures.sum ∙ ap (sum_by length) c.rows.ensures.paths) c.rows.ensures.numbers
