-- What neighbours are sorted by.
use Rattle.std.specs.Prelude.{ℕ, ◌-◌, ◌^◌, ◌<◌}
use Rattle.drawing.specs.declared.group.Neighbour.{Neighbour}

-- the greatest support gets the least first part
abbrev pub order_key : Neighbour → ℕ × ℕ
order_key n = (18446744073709551615 - n.support, n.number)

-- what its type says of the support
abbrev pub IsShort : Neighbour → Type 0
IsShort n = n.support < 2 ^ 64
