-- Fields of a line, and the numbers that they hold.
use Rattle.std.specs.Prelude.{ℕ, ◌<◌, ◌^◌, List}
use Rattle.std.specs.List.{join_with_byte}

-- fields, joined by a bar
abbrev pub fields : List (List ℕ) → List ℕ
fields parts = join_with_byte 124 parts

abbrev pub IsU32 : ℕ → Type 0
IsU32 n = n < 2 ^ 32

abbrev pub IsU64 : ℕ → Type 0
IsU64 n = n < 2 ^ 64
