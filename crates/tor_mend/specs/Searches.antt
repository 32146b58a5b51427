-- A search over literals that do not hold: what it has passed, and what stops it.
use Rattle.std.specs.Prelude.{◌≡◌, ℕ, ◌<◌, ◌≤◌, ◌⊎◌, List, Option, Some, None, slice_get, length}
use Rattle.relationships.specs.declared.label.End.{End}
use Rattle.tor_digraph.specs.Walks.{IsArc}
use Rattle.tor_digraph.specs.Trails.{StandsAt}
use Rattle.tor_clauses.specs.Literals.{lit_of, opposite_node, Holds}
use Rattle.tor_clauses.specs.Rounds.{IsClash}
use Rattle.tor_mend.specs.declared.searching.Stop.{Stop}

-- the node was visited at some place
abbrev pub IsVisited : List ℕ → ℕ → Type 0
IsVisited nodes x = (k : ℕ) × StandsAt nodes k x

-- no literal that was visited holds, and more visits leave it so
abbrev pub AreUnheld : List End → List ℕ → Type 0
AreUnheld ends nodes = (k x : ℕ) → StandsAt nodes k x → Holds ends (lit_of x) → ⊥

abbrev pub StayUnheld : List End → List ℕ → List ℕ → Type 0
StayUnheld ends old new = AreUnheld ends old → AreUnheld ends new

-- the head of an arc from the node at place k was visited, or it holds, and up to k its negation was not visited
abbrev pub IsPassed : List End → List ℕ → ℕ → ℕ → Type 0
IsPassed ends nodes k y =
    IsVisited nodes y ⊎ (Holds ends (lit_of y) × ((j : ℕ) → j ≤ k → StandsAt nodes j (opposite_node y) → ⊥))

-- so of all arcs from the nodes at the places before this one
abbrev pub ArePassed : List (ℕ × ℕ) → List End → List ℕ → ℕ → Type 0
ArePassed arcs ends nodes next =
    (k x : ℕ) → k < next → StandsAt nodes k x → (a y : ℕ) → IsArc arcs a x y → IsPassed ends nodes k y

abbrev pub AreAllPassed : List (ℕ × ℕ) → List End → List ℕ → Type 0
AreAllPassed arcs ends nodes = ArePassed arcs ends nodes (length nodes)

-- of the node at this place of a trail a way to its negation is known
abbrev pub IsKnownAt : List (Option ℕ) → List ℕ → ℕ → Type 0
IsKnownAt known nodes place = (x : ℕ) × StandsAt nodes place x × ((way : ℕ) × (slice_get known x ≡ Some (Some way)))

-- what has stopped a search
abbrev pub IsStop : List (ℕ × ℕ) → List (Option ℕ) → List ℕ → Stop → Type 0
IsStop arcs known nodes (Stop.Clash arc) = IsClash arcs nodes arc
IsStop arcs known nodes (Stop.Known place) = IsKnownAt known nodes place

-- what one arc more comes to: its head is passed, or the search stops
abbrev pub IsLook : List (ℕ × ℕ) → List End → List (Option ℕ) → List ℕ → ℕ → ℕ → Option Stop → Type 0
IsLook arcs ends known nodes k y None = IsPassed ends nodes k y
IsLook arcs ends known nodes k y (Some stop) = IsStop arcs known nodes stop

-- the same of the arc at this place, whichever its head
abbrev pub LooksAlong : List (ℕ × ℕ) → List End → List (Option ℕ) → List ℕ → ℕ → ℕ → Option Stop → Type 0
LooksAlong arcs ends known nodes k arc stop = (l m : ℕ) → IsArc arcs arc l m → IsLook arcs ends known nodes k m stop

-- it stops at this place, since a way from the node to its negation is known
abbrev pub IsStopAt : List (Option ℕ) → ℕ → ℕ → Stop → Type 0
IsStopAt known node place stop = (stop ≡ Stop.Known place) × ((way : ℕ) × (slice_get known node ≡ Some (Some way)))
