use Rattle.std.proofs.Common.{◌∙◌, ◌≤◌, ℕ, List, sym, ap₂, subst}
use Rattle.tor_arena.specs.Limits.{max_numbers}
use Rattle.path_table.specs.Rows.{row_paths, times_of}
use Rattle.path_table.specs.Inside.{counted_by, IsTable}
use Rattle.path_table.proofs.TableLemmas.{paths_of-counted_by, times_of-counted_by, some_all}
use Rattle.path_table.proofs.table.PathTable.from_rows.Goals as goal

pub invariant_of-result : goal.invariant_of-result
invariant_of-result c =
    subst (λ (paths : List (List ℕ)). IsTable c.args.limit c.item_count-numbers.result paths c.into_vec.result.items) (sym c.in_ok-paths.ensures.rows)
    (subst (IsTable c.args.limit c.item_count-numbers.result c.args.paths) (sym c.into_vec.ensures) (record {
      bound = c.requires.most;
      few = c.requires.few;
      same = c.requires.same;
      sum = c.item_count-numbers.ensures;
      short = subst (λ n. n ≤ max_numbers) (sym c.item_count-numbers.ensures) c.requires.numbers;
      clean = c.requires.clean;
      once = c.requires.once;
      some = some_all c.args.times c.requires.seen;
    }))

pub returns-clause-paths : goal.returns-clause-paths
returns-clause-paths c =
    ap₂ (λ (paths : List (List ℕ)) (times : List ℕ). row_paths (counted_by paths times)) c.in_ok-paths.ensures.rows c.into_vec.ensures ∙ paths_of-counted_by c.args.paths c.args.times c.requires.same

pub returns-clause-times : goal.returns-clause-times
returns-clause-times c =
    ap₂ (λ (paths : List (List ℕ)) (times : List ℕ). times_of (counted_by paths times)) c.in_ok-paths.ensures.rows c.into_vec.ensures ∙ times_of-counted_by c.args.paths c.args.times c.requires.same
