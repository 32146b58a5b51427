-- What a table of paths is seen as.
use Rattle.std.specs.Prelude.{ℕ, Bool, true, not, ◌&&◌, List, [], ◌∷◌, length, map, sum_by, bytes_eq}
use Rattle.std.specs.List.{list_any}

-- a distinct path, and its times
pub record Counted : Type 0 where
  pub path : List ℕ
  pub times : ℕ

-- at most so many rows, in order of first appearance
pub record Table : Type 0 where
  pub limit : ℕ
  pub rows : List Counted

abbrev pub row_paths : List Counted → List (List ℕ)
row_paths rows = map (λ row. row.path) rows

abbrev pub times_of : List Counted → List ℕ
times_of rows = map (λ row. row.times) rows

-- how many numbers the paths have in sum
abbrev pub numbers_in : List Counted → ℕ
numbers_in rows = sum_by (λ row. length row.path) rows

-- no path stands there twice
abbrev pub none_twice : List (List ℕ) → Bool
none_twice [] = true
none_twice (path ∷ paths) = not (list_any (λ other. bytes_eq other path) paths) && none_twice paths
