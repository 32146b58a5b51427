-- The number by which an edge is found in a table. An edge is two AS numbers, the lower first.
use Rattle.std.specs.Prelude.{ℕ, ◌+◌, ◌-◌, ◌*◌, ◌/◌, ◌%◌, ◌^◌, ◌<◌, ◌≤◌}

-- from 2 on; it holds what the higher AS has more than the lower, and not that AS itself, so that it is below 2^64 even where both
-- are 2^32 - 1
abbrev pub number_of_edge : ℕ × ℕ → ℕ
number_of_edge e = e.0 * 2 ^ 32 + (e.1 - e.0) + 2

-- the edge of a number
abbrev pub edge_numbered : ℕ → ℕ × ℕ
edge_numbered n = ((n - 2) / 2 ^ 32, (n - 2) / 2 ^ 32 + (n - 2) % 2 ^ 32)

-- it is the number of two AS numbers
abbrev pub IsEdgeNumber : ℕ → Type 0
IsEdgeNumber n = (2 ≤ n) × ((edge_numbered n).1 < 2 ^ 32)
