-- What the strong components of implications say of the literals (Aspvall, Plass and Tarjan 1979).
use Rattle.std.specs.Prelude.{◌≡◌, ℕ, ◌<◌, List, slice_get, Some}
use Rattle.relationships.specs.declared.label.End.{End}
use Rattle.tor_clauses.specs.Literals.{Literal, negated, node_of}

-- the node of the literal has this class
abbrev pub HasClass : List ℕ → Literal → ℕ → Type 0
HasClass classes lit k = slice_get classes (node_of lit) ≡ Some k

-- the two literals of the edge have one class
abbrev pub HaveOneClass : List ℕ → ℕ → Type 0
HaveOneClass classes edge =
    (k : ℕ) × HasClass classes (record { edge = edge; over = End.Low }) k × HasClass classes (record { edge = edge; over = End.High }) k

-- the class of the literal comes after that of its negation
abbrev pub IsLater : List ℕ → Literal → Type 0
IsLater classes lit = (j k : ℕ) × HasClass classes lit j × HasClass classes (negated lit) k × (k < j)

-- each edge has the end whose literal is the later of the two
abbrev pub AreLater : List ℕ → List End → Type 0
AreLater classes ends = (edge : ℕ) (end : End) → slice_get ends edge ≡ Some end → IsLater classes (record { edge = edge; over = end })
