-- ASes beside their numbers in a table. These words are those of the table alone.
use Rattle.std.specs.Prelude.{◌≡◌, ℕ, ◌+◌, List, map}
use Rattle.tor_numbers.specs.Slots.{IsApart}

-- each number is the AS in its place and two, and none stands twice
pub record AreShifted (numbers ases : List ℕ) : Type 0 where
  pub shifted : numbers ≡ map (λ a. a + 2) ases
  pub apart : IsApart numbers
