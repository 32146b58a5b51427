-- Rows that are found by their keys: the key of a row is its hash, or the first number after it that was no key before.
use Rattle.std.specs.Prelude.{◌≡◌, ◌<◌, ◌≤◌, ℕ, ◌+◌, ◌/◌, ◌%◌, ◌^◌, ◌++◌, ◌∷◌, [], List, length}
use Rattle.std.specs.Prelude.{Bool, true, false, Option, Some, nat_eq, position}
use Rattle.std.specs.List.{list_any}
use Rattle.tor_arena.specs.Limits.{max_paths}
use Rattle.path_table.specs.Chains.{path_hash, row_at}

-- the upper half of the hash of a path
abbrev pub short_hash : (seed : ℕ) (path : List ℕ) → ℕ
short_hash seed path = path_hash seed path / 2 ^ 32

-- the number so far after a hash; 0 comes after the greatest of 32 bits
abbrev pub number_after : (hash steps : ℕ) → ℕ
number_after hash steps = (hash + steps) % 2 ^ 32

-- whether a number is a key
abbrev pub is_key : (keys : List ℕ) (number : ℕ) → Bool
is_key keys number = list_any (nat_eq number) keys

-- the place of the key that is this number
abbrev pub place_of_key : (keys : List ℕ) (number : ℕ) → Option ℕ
place_of_key keys number = position (nat_eq number) keys

-- so many numbers from a hash on are keys
abbrev pub AreTaken : (keys : List ℕ) (hash steps : ℕ) → Type 0
AreTaken keys hash steps = (before : ℕ) → before < steps → is_key keys (number_after hash before) ≡ true

-- the key in a place is the first number from a hash on that is no key before it, so it is found from there
pub record IsKeyOf (keys : List ℕ) (hash place : ℕ) : Type 0 where
  pub steps : ℕ
  pub few : steps ≤ place
  pub taken : AreTaken keys hash steps
  pub at : place_of_key keys (number_after hash steps) ≡ Some place

-- each key is that of the row in its place
abbrev pub AreKeysOf : (seed : ℕ) (rows : List (List ℕ)) (keys : List ℕ) → Type 0
AreKeysOf seed rows keys = (place : ℕ) → place < length keys → IsKeyOf keys (short_hash seed (row_at rows place)) place

-- the first number from a hash on that is no key goes last
pub record TakesKey (hash : ℕ) (old new : List ℕ) : Type 0 where
  pub steps : ℕ
  pub few : steps ≤ length old
  pub taken : AreTaken old hash steps
  pub free : is_key old (number_after hash steps) ≡ false
  pub last : new ≡ old ++ number_after hash steps ∷ []

-- each row has its key
pub record IsIndexed (seed : ℕ) (rows : List (List ℕ)) (keys : List ℕ) : Type 0 where
  pub each : AreKeysOf seed rows keys
  pub many : length keys ≡ length rows
  pub few : length rows ≤ max_paths

-- paths, and with what their hashes begin
pub record Indexed : Type 0 where
  pub seed : ℕ
  pub rows : List (List ℕ)
