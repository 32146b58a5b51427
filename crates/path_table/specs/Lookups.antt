-- Where the paths of a batch were found, each by its number in the batch.
use Rattle.std.specs.Prelude.{◌≡◌, ◌≤◌, ℕ, true, List, length, Option, Some, None, slice_get, unwrap_or}
use Rattle.path_clean.specs.Paths.{is_cleaned}
use Rattle.path_table.specs.Rows.{Counted}
use Rattle.path_table.specs.RowKeys.{short_hash}
use Rattle.path_table.specs.Table.{place_of}

-- where the path of this number was found, if it was
abbrev pub found_at : (places : List (Option ℕ)) (k : ℕ) → Option ℕ
found_at places k = unwrap_or (slice_get places k) None

-- the row at which a path was found is that path
abbrev pub AreRowsWhereFound : (rows paths : List (List ℕ)) (places : List (Option ℕ)) → Type 0
AreRowsWhereFound rows paths places =
    (k id : ℕ) (path : List ℕ) → slice_get places k ≡ Some (Some id) → slice_get paths k ≡ Some path → slice_get rows id ≡ Some path

-- a path stands in the table where it was found
abbrev pub StandWhereFound : (rows : List Counted) (paths : List (List ℕ)) (places : List (Option ℕ)) → Type 0
StandWhereFound rows paths places =
    (k id : ℕ) (path : List ℕ) → slice_get places k ≡ Some (Some id) → slice_get paths k ≡ Some path → place_of rows path ≡ Some id

-- a path that was found is clean
abbrev pub AreCleanWhereFound : (paths : List (List ℕ)) (places : List (Option ℕ)) → Type 0
AreCleanWhereFound paths places =
    (k id : ℕ) (path : List ℕ) → slice_get places k ≡ Some (Some id) → slice_get paths k ≡ Some path → is_cleaned path ≡ true

-- each hash is that of the path in its place
pub record AreHashed (seed : ℕ) (paths : List (List ℕ)) (hashes : List ℕ) : Type 0 where
  pub few : length hashes ≤ length paths
  pub each : (k hash : ℕ) (path : List ℕ) → slice_get hashes k ≡ Some hash → slice_get paths k ≡ Some path → hash ≡ short_hash seed path
