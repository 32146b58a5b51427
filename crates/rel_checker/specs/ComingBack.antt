-- The ASes of a walk that refutes.
use Rattle.std.specs.Prelude.{◌≢◌, ℕ, List}
use Rattle.relationships.specs.Evidence.{HasPair, BeginsWith, EndsWith}

-- it begins with two different ASes x, y, holds y followed at once by x, and ends with x, y
pub record ComesBack (ases : List ℕ) : Type 0 where
  pub x : ℕ
  pub y : ℕ
  pub two : x ≢ y
  pub begins : BeginsWith ases x y
  pub flips : HasPair ases y x
  pub ends : EndsWith ases x y
