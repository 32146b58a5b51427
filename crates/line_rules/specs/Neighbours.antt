-- For each edge a row of other edges, and what is reached from an edge along the rows.
use Rattle.std.specs.Prelude.{◌≡◌, ◌⊎◌, ℕ, ◌-◌, ◌<◌, List, [], ◌∷◌, ◌++◌, length, replicate}
use Rattle.std.specs.Prelude.{Some, Contains, slice_get, slice_set, slice_index_or}

-- these rows, and empty ones behind them up to so many
abbrev pub filled_up : List (List ℕ) → ℕ → List (List ℕ)
filled_up rows count = rows ++ replicate (count - length rows) []

-- j stands in the row of i
abbrev pub HasNext : List (List ℕ) → ℕ → ℕ → Type 0
HasNext rows i j = (row : List ℕ) × (slice_get rows i ≡ Some row) × Contains row j

-- what stands in a row has a row
abbrev pub EachHasRow : List (List ℕ) → Type 0
EachHasRow rows = (i j : ℕ) → HasNext rows i j → j < length rows

-- where j stands in the row of i, i stands in the row of j
abbrev pub IsMutual : List (List ℕ) → Type 0
IsMutual rows = (i j : ℕ) → HasNext rows i j → HasNext rows j i

-- the rows with j behind the others in the row of i
abbrev pub with_next : List (List ℕ) → ℕ → ℕ → List (List ℕ)
with_next rows i j = slice_set rows i (slice_index_or rows i [] ++ j ∷ [])

-- what is reached from start along the rows
pub data ReachesRow (rows : List (List ℕ)) (start : ℕ) : ℕ → Type 0 where
  here : ReachesRow rows start start
  onward : {i j : ℕ} → ReachesRow rows start i → HasNext rows i j → ReachesRow rows start j

-- the rows with j behind the others in each row of `seen`
pub record HasBack (j : ℕ) (seen : List ℕ) (old new : List (List ℕ)) : Type 0 where
  pub many : length new ≡ length old
  pub kept : (k l : ℕ) → HasNext old k l → HasNext new k l
  pub added : (i : ℕ) → Contains seen i → HasNext new i j
  pub only : (k l : ℕ) → HasNext new k l → HasNext old k l ⊎ (l ≡ j)

-- these are the rows the other way round
pub record IsTurned (rows turned : List (List ℕ)) : Type 0 where
  pub many : length turned ≡ length rows
  pub inside : EachHasRow turned
  pub back : (i j : ℕ) → HasNext rows i j → HasNext turned j i
