-- Rows in their places, and their hashes.
use Rattle.std.specs.Prelude.{◌*◌, ◌/◌, ◌%◌, ◌^◌, ℕ, List, [], fold, slice_get, unwrap_or, bit_xor}

abbrev pub row_at : List (List ℕ) → ℕ → List ℕ
row_at rows k = unwrap_or (slice_get rows k) []

-- 64 bits whose upper half goes into the lower
abbrev pub folded : ℕ → ℕ
folded h = bit_xor h (h / 2 ^ 32)

-- one number more
abbrev pub mixed : ℕ → ℕ → ℕ
mixed h x = folded (bit_xor h x * 11400714819323198485 % 2 ^ 64)

-- the hash of a path; the number with which it begins differs from table to table
unfoldable pub path_hash : ℕ → List ℕ → ℕ
path_hash seed path = fold mixed seed path
