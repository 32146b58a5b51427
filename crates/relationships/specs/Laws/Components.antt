-- What strong components of the implications give: an orientation, or a walk that refutes.
-- Each law is proved as the contract of a function in src/laws/components.rt.
use Rattle.std.specs.Prelude.{◌≡◌, ◌≢◌, ℕ, ◌≤◌, List, [], ◌∷◌, ◌++◌, All, if◌then◌else◌, nat_lt}
use Rattle.relationships.specs.declared.label.End.{End}
use Rattle.relationships.specs.Relationship.{Orientation, Serves}
use Rattle.relationships.specs.declared.walk.Link.{Link}
use Rattle.relationships.specs.Evidence.{IsTriple, NeighboursDiffer, Numbered, IsLinked, Refutes}

-- the numbers of the components never fall along an arc, and those of two opposite orders differ
pub record IsRanked (paths : List (List ℕ)) (rank : ℕ → ℕ → ℕ) : Type 0 where
  pub along : (x y z : ℕ) → IsTriple paths x y z → rank x y ≤ rank y z
  pub apart : (x y z : ℕ) → IsTriple paths x y z → rank x y ≢ rank y x

-- of two opposite orders the one of higher rank
abbrev pub ranked : (ℕ → ℕ → ℕ) → Orientation
ranked rank low high = if nat_lt (rank high low) (rank low high) then End.Low else End.High

abbrev pub RankLaw : Type 0
RankLaw =
    (paths : List (List ℕ)) (rank : ℕ → ℕ → ℕ) → All NeighboursDiffer paths → IsRanked paths rank → Serves (ranked rank) paths

-- a walk from an order to its opposite, and one back, make a walk that refutes
abbrev pub CycleLaw : Type 0
CycleLaw =
    (A : Numbered) (x y : ℕ) (before after : List ℕ) (there back : List Link) → x ≢ y →
    IsLinked A (before ++ (y ∷ x ∷ [])) there → (rest : List ℕ) × (before ++ (y ∷ x ∷ []) ≡ x ∷ y ∷ rest) →
    IsLinked A (y ∷ x ∷ after) back → (rest : List ℕ) × (y ∷ x ∷ after ≡ rest ++ (x ∷ y ∷ [])) →
    Refutes A (record { ases = before ++ (y ∷ x ∷ after); links = there ++ back })
