-- What the tables of ASes and of pairs hold.
use Rattle.std.specs.Prelude.{◌≡◌, ℕ, true, ◌-◌, ◌==◌, List, [], ◌∷◌, ◌++◌, if◌then◌else◌}
use Rattle.std.specs.List.{list_any}
use Rattle.relationships.specs.Graph.{Edge}

-- a new AS goes last, and one that is there is not added again
abbrev pub with_as : List ℕ → ℕ → List ℕ
with_as known n = if list_any (λ m. n == m) known then known else known ++ n ∷ []

-- the same with all of these
abbrev pub with_ases : List ℕ → List ℕ → List ℕ
with_ases known [] = known
with_ases known (n ∷ more) = with_ases (with_as known n) more

abbrev pub IsKnown : List ℕ → ℕ → Type 0
IsKnown known n = list_any (λ m. n == m) known ≡ true

-- both ASes of each pair are known
abbrev pub HaveEnds : List ℕ → List Edge → Type 0
HaveEnds known [] = Unit {0}
HaveEnds known (e ∷ es) = IsKnown known e.0 × IsKnown known e.1 × HaveEnds known es

-- the AS of a number in the table
abbrev pub as_numbered : ℕ → ℕ
as_numbered n = n - 2
