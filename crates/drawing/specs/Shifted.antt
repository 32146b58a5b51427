-- AS numbers in tables, which hold numbers from 2 on. These words are those of the tables alone.
use Rattle.std.specs.Prelude.{◌≡◌, ◌≢◌, ℕ, ◌+◌, ◌↔◌, List, map, Contains}
use Rattle.std.specs.List.{AllPairs}
use Rattle.drawing.specs.declared.standings.Standing.{Standing}

-- each number is that of the AS in its place and two, and none stands twice
pub record AreNumbered (numbers : List ℕ) (drawn : List Standing) : Type 0 where
  pub shifted : numbers ≡ map (λ s. s.number + 2) drawn
  pub once : AllPairs (λ s t. s.number ≢ t.number) drawn

-- the set has these numbers and no others, each and two
abbrev pub HasNumbers : List ℕ → List ℕ → Type 0
HasNumbers set numbers = (n : ℕ) → Contains set (n + 2) ↔ Contains numbers n
