-- The distinct paths, each with how often it was added.
use Rattle.std.specs.Prelude.{◌≡◌, ◌<◌, ℕ, suc, ◌+◌, ◌-◌, ◌^◌, min, not, List, [], ◌∷◌, length, map, filter, count_by, fold, Option, Some}
use Rattle.std.specs.Prelude.{None, option_map, if◌then◌else◌, bytes_eq}
use Rattle.tor_arena.specs.Growth.{one_more}
use Rattle.path_table.specs.declared.table.Added.{Added}
use Rattle.path_table.specs.declared.table.Added.TheVariants.{Known, New}
use Rattle.tor_arena.specs.Limits.{max_numbers}
use Rattle.path_table.specs.Rows.{Counted, Table, numbers_in}

-- the place of the row of a path, from 0
abbrev pub place_of : List Counted → List ℕ → Option ℕ
place_of [] path = None
place_of (row ∷ others) path = if bytes_eq row.path path then Some 0 else option_map suc (place_of others path)

-- the row of this path counts once more, or a new row goes last
abbrev pub with_path : List Counted → List ℕ → List Counted
with_path [] path = record { path = path; times = 1 } ∷ []
with_path (row ∷ others) path =
    if bytes_eq row.path path then record { path = row.path; times = one_more row.times } ∷ others
    else row ∷ with_path others path

-- the answer names the row of the path: one that is there, or the one that goes last
abbrev pub Names : List Counted → List ℕ → Added → Type 0
Names rows path (Known id) = place_of rows path ≡ Some id
Names rows path (New id) = (place_of rows path ≡ None) × (id ≡ length rows)

-- the path of this place counts once more
abbrev pub CountsOnceMore : ℕ → (old new : List Counted) → Type 0
CountsOnceMore id old new = (path : List ℕ) → place_of old path ≡ Some id → new ≡ with_path old path

-- the path is new, and as many are there as may be
abbrev pub IsPathTooMany : Table → List ℕ → Type 0
IsPathTooMany table path = (place_of table.rows path ≡ None) × (length table.rows ≡ table.limit)

-- the path is new, fewer are there than may be, and with it the paths would have too many numbers in sum
abbrev pub HasNumbersTooMany : Table → List ℕ → Type 0
HasNumbersTooMany table path =
    (place_of table.rows path ≡ None) × (length table.rows < table.limit)
    × (max_numbers < numbers_in table.rows + length path)

-- the distinct paths, in order of first appearance
abbrev pub distinct_paths : List (List ℕ) → List (List ℕ)
distinct_paths [] = []
distinct_paths (path ∷ paths) = path ∷ filter (λ other. not (bytes_eq other path)) (distinct_paths paths)

-- how often a path stands there, which stops at 2 ^ 64 - 1
abbrev pub times : List (List ℕ) → List ℕ → ℕ
times paths path = min (count_by (λ other. bytes_eq other path) paths) (2 ^ 64 - 1)

abbrev pub counted : List (List ℕ) → List Counted
counted paths = map (λ path. record { path = path; times = times paths path }) (distinct_paths paths)

-- counting paths one after the other gives the distinct ones with their times
abbrev pub CountingLaw : Type 0
CountingLaw = (paths : List (List ℕ)) → fold with_path [] paths ≡ counted paths
