-- Rows that stand twice, found by buckets of their hashes.
use Rattle.std.specs.Prelude.{◌≡◌, ◌≢◌, ◌≤◌, ◌<◌, ◌-◌, ◌⊎◌, ℕ, List, length, slice_index, bit_and, Option, Some, None}
use Rattle.path_table.specs.Chains.{row_at}

-- a row before this place is the same
abbrev pub Repeats : List (List ℕ) → ℕ → Type 0
Repeats rows place = (k : ℕ) × (k < place) × (row_at rows k ≡ row_at rows place)

-- the place of the first row that repeats one, or none where no row does
abbrev pub IsFirstRepeat : List (List ℕ) → Option ℕ → Type 0
IsFirstRepeat rows None = (j : ℕ) → j < length rows → Repeats rows j → ⊥
IsFirstRepeat rows (Some place) = (place < length rows) × Repeats rows place × ((j : ℕ) → j < place → Repeats rows j → ⊥)

-- rows that are the same have one hash
abbrev pub AreSameHashed : List (List ℕ) → List ℕ → Type 0
AreSameHashed rows hashes =
    (j k : ℕ) → j < length rows → k < length rows → row_at rows j ≡ row_at rows k → slice_index hashes j ≡ slice_index hashes k

-- the bucket of a hash, of so many
abbrev pub bucket_of_hash : (hash many : ℕ) → ℕ
bucket_of_hash hash many = bit_and hash (many - 1)

-- into which of so many buckets the row in a place belongs
abbrev pub bucket : (many : ℕ) (hashes : List ℕ) (place : ℕ) → ℕ
bucket many hashes place = bucket_of_hash (slice_index hashes place) many

-- of the rows before the place `end`, those in the bucket end at `at`: none from there on is in it
pub record EndsIn (many : ℕ) (hashes : List ℕ) (key at end : ℕ) : Type 0 where
  pub within : at ≤ end
  pub none : (k : ℕ) → at ≤ k → k < end → bucket many hashes k ≢ key
  pub has : (at ≡ 0) ⊎ (bucket many hashes (at - 1) ≡ key)

-- for each row before the place `end` it is written down where the earlier rows of its bucket end
abbrev pub AreLinked : ℕ → List ℕ → List ℕ → ℕ → Type 0
AreLinked many hashes older end = (r : ℕ) → r < end → EndsIn many hashes (bucket many hashes r) (slice_index older r) r

-- for each bucket it is written down where its rows before the place `end` end
abbrev pub AreNewest : ℕ → List ℕ → List ℕ → ℕ → Type 0
AreNewest many hashes newest end = (key : ℕ) → key < many → EndsIn many hashes key (slice_index newest key) end
