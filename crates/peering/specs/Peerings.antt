-- Edges that may be peerings, and what labels leave of paths.
use Rattle.std.specs.Prelude.{◌≡◌, ◌≢◌, ℕ, ◌+◌, ◌<◌, ◌⊎◌, Bool, false, List, Some, All, Contains, length, min, max, slice_get}
use Rattle.std.specs.Prelude.{slice_index_or, slice_set, [], ◌∷◌}
use Rattle.std.specs.Prelude.{IsTrue, IsFalse}
use Rattle.std.specs.List.{list_any}
use Rattle.relationships.specs.declared.label.Label.{Label}
use Rattle.relationships.specs.Graph.{Edge, is_same, edges_on, edges, degree}
use Rattle.relationships.specs.Preference.{IsAlike}
use Rattle.as_graph.specs.Paths.{path_at}
use Rattle.as_graph.specs.declared.step.Step.{Step}
use Rattle.as_graph.specs.Steps.{AreSteps}

-- the edge of a place
abbrev pub edge_in : List (List ℕ) → ℕ → Edge
edge_in paths place = slice_index_or (edges paths) place (0, 0)

-- the path of a place holds the edge of a place
abbrev pub holds : List (List ℕ) → ℕ → ℕ → Bool
holds paths path edge = list_any (is_same (edge_in paths edge)) (edges_on (path_at paths path))

-- one of the steps has the edge of this place
abbrev pub HasStep : List Step → ℕ → Type 0
HasStep steps edge = (s : Step) × Contains steps s × (s.edge ≡ edge)

-- two of the steps, one behind the other, have the edges of these places
abbrev pub AreBeside : List Step → ℕ → ℕ → Type 0
AreBeside steps a b =
    (at : ℕ) × (first second : Step) × (slice_get steps at ≡ Some first) × (slice_get steps (at + 1) ≡ Some second) ×
    (first.edge ≡ a) × (second.edge ≡ b)

-- and this in one of the two orders, on a kept path
abbrev pub AreBesideOn : List (List ℕ) → List ℕ → ℕ → ℕ → Type 0
AreBesideOn paths kept a b =
    (place : ℕ) × (steps : List Step) × Contains kept place × AreSteps (edges paths) (path_at paths place) steps ×
    All (λ step. step.edge < length (edges paths)) steps × (AreBeside steps a b ⊎ AreBeside steps b a)

-- the lists with one edge more in front of those of another
abbrev pub with_partner : List (List ℕ) → ℕ → ℕ → List (List ℕ)
with_partner lists edge partner = slice_set lists edge (partner ∷ slice_index_or lists edge [])

-- the lesser of two edges is added to the list of the greater, unless one of the two is excluded
abbrev pub IsPairAdded : Bool → Bool → ℕ → ℕ → List (List ℕ) → List (List ℕ) → Type 0
IsPairAdded excluded excluded_too a b old new =
    (IsTrue excluded × (new ≡ old)) ⊎ ((IsTrue excluded_too × (new ≡ old)) ⊎
    (IsFalse excluded × IsFalse excluded_too × (new ≡ with_partner old (max a b) (min a b))))

-- each edge that one of these kept paths holds is open unless it is excluded
abbrev pub AllHeldOpen : List (List ℕ) → List ℕ → List Bool → List Bool → Type 0
AllHeldOpen paths kept excluded opened =
    (edge place : ℕ) → edge < length (edges paths) → IsFalse (slice_index_or excluded edge false) → Contains kept place →
    IsTrue (holds paths place edge) → IsTrue (slice_index_or opened edge false)

-- of each two edges that stand one behind the other on one of these kept paths the lesser is on the list of the greater, unless one of
-- the two is excluded
abbrev pub AllBesideListed : List (List ℕ) → List ℕ → List Bool → List (List ℕ) → Type 0
AllBesideListed paths kept excluded lists =
    (place a b : ℕ) (steps : List Step) → Contains kept place → AreSteps (edges paths) (path_at paths place) steps → AreBeside steps a b →
    IsFalse (slice_index_or excluded a false) → IsFalse (slice_index_or excluded b false) →
    Contains (slice_index_or lists (max a b) []) (min a b)

-- the labels with the edge of a place as a peering
abbrev pub peer_at : List Label → ℕ → List Label
peer_at labels edge = slice_set labels edge Label.Peer

-- none of these edges is a peering
abbrev pub NoPeers : List Label → List ℕ → Type 0
NoPeers labels places = All (λ place. slice_index_or labels place Label.Low ≢ Label.Peer) places

-- the edge becomes a peering if none of these edges is one then, and else all labels stay as they are
abbrev pub IsPeeredBeside : List ℕ → ℕ → List Label → List Label → Type 0
IsPeeredBeside places edge old new =
    (NoPeers (peer_at old edge) places × (new ≡ peer_at old edge)) ⊎
    ((NoPeers (peer_at old edge) places → ⊥) × (new ≡ old))

-- an edge becomes a peering if it is open, its ends are alike in degree, and none of these edges is a peering then; else all labels
-- stay as they are
abbrev pub MayFlip : List (List ℕ) → ℕ → Bool → List ℕ → ℕ → List Label → Type 0
MayFlip paths ratio open_to places edge old =
    IsTrue open_to × IsAlike (degree paths) ratio (edge_in paths edge) × NoPeers (peer_at old edge) places

abbrev pub IsPeeredIfAllowed : List (List ℕ) → ℕ → Bool → List ℕ → ℕ → List Label → List Label → Type 0
IsPeeredIfAllowed paths ratio open_to places edge old new =
    (MayFlip paths ratio open_to places edge old × (new ≡ peer_at old edge)) ⊎
    ((MayFlip paths ratio open_to places edge old → ⊥) × (new ≡ old))
