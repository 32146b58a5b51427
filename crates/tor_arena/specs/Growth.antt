-- How a table of slots grows, how a search goes from slot to slot, and how a count goes up.
use Rattle.std.specs.Prelude.{◌≡◌, ◌<◌, ℕ, ◌*◌, ◌-◌, ◌^◌, min, ◌+◌, nat_lt, if◌then◌else◌}

-- twice as many as before, or the greatest number of 64 bits if that is less; and `first` where there were none
pub record IsDoubled (first old new : ℕ) : Type 0 where
  pub begun : old ≡ 0 → new ≡ first
  pub twice : 0 < old → new ≡ min (old * 2) (2 ^ 64 - 1)

-- the slot behind one, which is the first behind the last
abbrev pub next_slot : (count slot : ℕ) → ℕ
next_slot count slot = if nat_lt (slot + 1) count then slot + 1 else 0

-- the count after one more, which stops at 2 ^ 64 - 1
abbrev pub one_more : ℕ → ℕ
one_more count = min (count + 1) (2 ^ 64 - 1)
