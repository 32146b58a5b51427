-- Where two lists differ.
use Rattle.std.specs.Prelude.{◌≡◌, ℕ, ◌<◌, List, slice_get}

-- the two lists differ first in this place
pub record Differs {X : Type 0} (xs ys : List X) (k : ℕ) : Type 0 where
  pub breach : slice_get xs k ≡ slice_get ys k → ⊥
  pub before : (j : ℕ) → j < k → slice_get xs j ≡ slice_get ys j
