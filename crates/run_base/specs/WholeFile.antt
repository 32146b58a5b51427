-- A file that is read whole, where it has at most so many octets.
use Rattle.std.specs.Prelude.{◌≡◌, ◌≤◌, ◌<◌, ◌⊎◌, ◌+◌, ℕ, List, [], length, drop, Option, Some, None, IfSome, IsSomeAnd}
use Rattle.tor_io.specs.Contents.{Files}

-- the file of this name is there with these octets, and they are few enough
pub record IsFile (most : ℕ) (files : Files) (name bytes : List ℕ) : Type 0 where
  pub there : files name ≡ Some bytes
  pub short : length bytes ≤ most

-- a file of these octets has more
abbrev pub IsLong : ℕ → List ℕ → Type 0
IsLong most bytes = most < length bytes

-- a file that is there and has more
abbrev pub IsLongFile : ℕ → Option (List ℕ) → Type 0
IsLongFile most None = ⊥
IsLongFile most (Some bytes) = IsLong most bytes

-- of the file of this name, where its octets are known, one more than may be was read, and all others are left
abbrev pub LeavesRest : ℕ → List ℕ → Option Files → Option (List ℕ) → Type 0
LeavesRest most name known left = IfSome known (λ files. IfSome (files name) (λ bytes. left ≡ Some (drop (most + 1) bytes)))

-- of these octets some were read, maybe none, and at most one more than may be; the rest of them is left
abbrev pub IsRestOf : ℕ → Option (List ℕ) → List ℕ → Type 0
IsRestOf most left bytes = (read : ℕ) × (read ≤ most + 1) × (left ≡ Some (drop read bytes))

-- where the files are known, nothing is left unread, or such a rest of the file of this name
abbrev pub LeavesOnly : ℕ → List ℕ → Option Files → Option (List ℕ) → Type 0
LeavesOnly most name known left = IfSome known (λ files. (left ≡ Some []) ⊎ IsSomeAnd (files name) (IsRestOf most left))
