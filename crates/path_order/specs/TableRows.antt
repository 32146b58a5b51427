-- What holds of the rows of every table of paths, in whatever order they are taken.
use Rattle.std.specs.Prelude.{◌≤◌, List, length, sum_by, All, IsTrue}
use Rattle.std.specs.List.{list_all}
use Rattle.tor_arena.specs.Limits.{max_paths, max_numbers}
use Rattle.path_clean.specs.Paths.{is_cleaned}
use Rattle.path_table.specs.Rows.{Counted, row_paths, times_of, none_twice}

-- rows as a table of paths has them: clean paths, each seen and none there twice, and no more of them and of their numbers than may be
pub record AreTableRows (rows : List Counted) : Type 0 where
  pub clean : IsTrue (list_all is_cleaned (row_paths rows))
  pub seen : All (λ times. 1 ≤ times) (times_of rows)
  pub once : IsTrue (none_twice (row_paths rows))
  pub few : length (row_paths rows) ≤ max_paths
  pub numbers : sum_by length (row_paths rows) ≤ max_numbers
