-- Numbers that are added one by one, each once.
use Rattle.std.specs.Prelude.{◌≡◌, ◌⊎◌, ℕ, List, [], ◌∷◌, ◌++◌, Contains}

-- the number is there and nothing changes, or it is new and goes last
abbrev pub GoesLastIfNew : ℕ → List ℕ → List ℕ → Type 0
GoesLastIfNew number old new = (Contains old number × (new ≡ old)) ⊎ ((Contains old number → ⊥) × (new ≡ old ++ number ∷ []))
