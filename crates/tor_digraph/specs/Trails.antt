-- What a search has visited, and from where.
use Rattle.std.specs.Prelude.{◌≡◌, ℕ, ◌<◌, ◌⊎◌, Bool, true, false, List, [], ◌∷◌, ◌++◌, Some, slice_get, length, Contains}
use Rattle.tor_digraph.specs.Walks.{IsArc, Reaches}
use Rattle.tor_digraph.specs.declared.trail.Origin.{Origin}
use Rattle.tor_digraph.specs.declared.trail.Trail.{Trail}

-- the node stands at this place
abbrev pub StandsAt : List ℕ → ℕ → ℕ → Type 0
StandsAt nodes k x = slice_get nodes k ≡ Some x

abbrev pub origin_at : ℕ → ℕ → Origin
origin_at place arc = record { place = place; arc = arc }

-- the node goes last, with how it was found; or it was visited before, and nothing changes
abbrev pub Visits : ℕ → ℕ → ℕ → Trail → Trail → Bool → Type 0
Visits node place arc old new true = (Contains old.nodes.items node → ⊥) × (new.nodes.items ≡ old.nodes.items ++ node ∷ []) ×
    (new.origins ≡ old.origins ++ origin_at place arc ∷ [])
Visits node place arc old new false = Contains old.nodes.items node × (new.nodes.items ≡ old.nodes.items) × (new.origins ≡ old.origins)

-- the arc leads to the head from the node at this place
abbrev pub IsHeadFrom : List (ℕ × ℕ) → List ℕ → ℕ → ℕ → ℕ → Type 0
IsHeadFrom arcs nodes place arc head = (tail : ℕ) × IsArc arcs arc tail head × StandsAt nodes place tail

-- the node at this place was found along an arc from one that stands before it
pub record HasOrigin (arcs : List (ℕ × ℕ)) (trail : Trail) (k x : ℕ) : Type 0 where
  pub origin : Origin
  pub noted : slice_get trail.origins k ≡ Some origin
  pub before : origin.place < k
  pub tail : ℕ
  pub there : StandsAt trail.nodes.items origin.place tail
  pub arc : IsArc arcs origin.arc tail x

-- each node is reached from the first one, and each but that was found along an arc
pub record IsTrail (arcs : List (ℕ × ℕ)) (start : ℕ) (trail : Trail) : Type 0 where
  pub many : length trail.origins ≡ length trail.nodes.items
  pub first : StandsAt trail.nodes.items 0 start
  pub reached : (k x : ℕ) → StandsAt trail.nodes.items k x → Reaches arcs start x
  pub found : (k x : ℕ) → StandsAt trail.nodes.items k x → (k ≡ 0) ⊎ HasOrigin arcs trail k x

-- whatever its start, it stays one
abbrev pub StaysTrail : List (ℕ × ℕ) → Trail → Trail → Type 0
StaysTrail arcs old new = (start : ℕ) → IsTrail arcs start old → IsTrail arcs start new
