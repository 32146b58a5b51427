-- What a table of paths holds: the paths, and their times in a list of their own.
use Rattle.std.specs.Prelude.{◌≡◌, ◌≤◌, nat_le, ℕ, true, List, [], ◌∷◌, length, sum_by}
use Rattle.std.specs.List.{list_all}
use Rattle.tor_arena.specs.Limits.{max_paths, max_numbers}
use Rattle.path_clean.specs.Paths.{is_cleaned}
use Rattle.path_table.specs.Rows.{Counted, none_twice}

-- each path with the number of the same place
abbrev pub counted_by : List (List ℕ) → List ℕ → List Counted
counted_by [] times = []
counted_by (path ∷ paths) [] = []
counted_by (path ∷ paths) (n ∷ times) = record { path = path; times = n } ∷ counted_by paths times

-- what holds of the paths and the times of a table
pub record IsTable (limit numbers : ℕ) (paths : List (List ℕ)) (times : List ℕ) : Type 0 where
  pub bound : limit ≤ max_paths
  pub few : length paths ≤ limit
  pub same : length times ≡ length paths
  pub sum : numbers ≡ sum_by length paths
  pub short : numbers ≤ max_numbers
  pub clean : list_all is_cleaned paths ≡ true
  pub once : none_twice paths ≡ true
  pub some : list_all (nat_le 1) times ≡ true
