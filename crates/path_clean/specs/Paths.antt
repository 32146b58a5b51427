-- Paths that are clean.
use Rattle.std.specs.Prelude.{ℕ, ◌==◌, Bool, not, ◌&&◌, ◌||◌, nat_le, List, length}
use Rattle.std.specs.List.{list_any}
use Rattle.tor_arena.specs.Distinct.{is_distinct}

-- numbers of ASes that are no network's: 0 (RFC 7607), 23456 (RFC 6793), 64496 to 65551 (RFCs 5398, 6996 and 7300),
-- 4200000000 to 4294967295 (RFCs 6996 and 7300)
abbrev pub is_reserved : ℕ → Bool
is_reserved n = (n == 0) || (n == 23456) || (nat_le 64496 n && nat_le n 65551) || (nat_le 4200000000 n && nat_le n 4294967295)

-- at least two ASes, all distinct, none reserved
abbrev pub is_cleaned : List ℕ → Bool
is_cleaned path = nat_le 2 (length path) && is_distinct path && not (list_any is_reserved path)
