-- How a walk that shows an order begins.
use Rattle.std.specs.Prelude.{ℕ, ◌⊎◌, List, Contains}
use Rattle.relationships.specs.Evidence.{BeginsWith}

-- with "under over", or with an order that is shown already
abbrev pub Starts : List ℕ → List (ℕ × ℕ) → ℕ → ℕ → Type 0
Starts ases shown over under = BeginsWith ases under over ⊎ ((c d : ℕ) × BeginsWith ases c d × Contains shown (c, d))
