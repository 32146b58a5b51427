-- The orders against the labels, and a search that puts them into an order. The words behind `AreCandidates` are the search's own: no
-- reader of a public clause needs them.
use Rattle.std.specs.Prelude.{◌≡◌, ℕ, ◌+◌, ◌-◌, ◌*◌, ◌^◌, ◌<◌, ◌⊎◌, List, [], ◌∷◌, ◌++◌, Some, None, Option, slice_get}
use Rattle.std.specs.Prelude.{length, All, Contains}
use Rattle.relationships.specs.declared.label.End.{End}
use Rattle.relationships.specs.declared.label.Label.{Label}
use Rattle.tor_clauses.specs.Literals.{node_of}
use Rattle.order_trials.specs.Posing.{Posed}
use Rattle.order_trials.specs.declared.depth_search.Entered.{Entered}
use Rattle.order_trials.specs.declared.depth_search.DepthSearch.{DepthSearch}

-- the node of the order against this label of an edge; a peering has none
abbrev pub against : ℕ → Label → Option ℕ
against edge Label.Low = Some (node_of (record { edge = edge; over = End.High }))
against edge Label.High = Some (node_of (record { edge = edge; over = End.Low }))
against edge Label.Peer = None

-- the node is that of the order against the label of this edge
abbrev pub IsAgainstAt : List Label → ℕ → ℕ → Type 0
IsAgainstAt labels edge n = (label : Label) × (slice_get labels edge ≡ Some label) × (against edge label ≡ Some n)

-- the node is that of the order against the label of some edge
abbrev pub IsAgainst : List Label → ℕ → Type 0
IsAgainst labels n = (edge : ℕ) × (label : Label) × (slice_get labels edge ≡ Some label) × (against edge label ≡ Some n)

-- the list with the node, if it is such a one
abbrev pub IsChoice : List Label → ℕ → List ℕ → List ℕ → Type 0
IsChoice labels n old new = (IsAgainst labels n × (new ≡ old ++ n ∷ [])) ⊎ ((IsAgainst labels n → ⊥) × (new ≡ old))

-- these are all orders against the labels, and no others
pub record AreCandidates (posed : Posed) (nodes : List ℕ) : Type 0 where
  pub inside : All (λ n. n < posed.formula.net.nodes) nodes
  pub only : All (IsAgainst posed.labels) nodes
  pub all : (n : ℕ) → IsAgainst posed.labels n → Contains nodes n

-- ---- the search

-- the search has not left the node yet
abbrev pub OnStack : List Entered → ℕ → Type 0
OnStack stack n = (k : ℕ) × (o : Entered) × (slice_get stack k ≡ Some o) × (o.node ≡ n)

-- each order against a label to which the search has come was chosen, or is not left yet
pub record IsInDepth (posed : Posed) (found : DepthSearch) : Type 0 where
  pub many : found.seen.count ≡ posed.formula.net.nodes
  pub inside : All (λ n. n < posed.formula.net.nodes) found.chosen
  pub only : All (IsAgainst posed.labels) found.chosen
  pub opens : (k : ℕ) (o : Entered) → slice_get found.stack k ≡ Some o → o.node < posed.formula.net.nodes
  pub each : (n : ℕ) → IsAgainst posed.labels n → Contains found.seen.items n → Contains found.chosen n ⊎ OnStack found.stack n

-- the search with one more node that was not left yet
abbrev pub with_entered : DepthSearch → Entered → DepthSearch
with_entered found top = record found { stack = found.stack ++ top ∷ [] }

-- the search has come to the node
pub record Visits (node : ℕ) (old new : DepthSearch) : Type 0 where
  pub many : new.seen.count ≡ old.seen.count
  pub seen : new.seen.items ≡ old.seen.items ++ node ∷ []
  pub opened : (top : Entered) × (top.node ≡ node) × (new.stack ≡ old.stack ++ top ∷ [])
  pub chosen : new.chosen ≡ old.chosen
  pub few : length old.seen.items < 2 ^ 64

-- at most so many steps are left
abbrev pub work : DepthSearch → ℕ
work found = 2 * (2 ^ 64 - length found.seen.items) + length found.stack

-- ---- over the edges

-- the search has come to the orders against the first labels, so many
abbrev pub AreAgainstSeen : List Label → ℕ → List ℕ → Type 0
AreAgainstSeen labels place seen =
    (k n : ℕ) (label : Label) → k < place → slice_get labels k ≡ Some label → against k label ≡ Some n → Contains seen n

-- the search has come to the orders against the labels of the first edges, so many, and has left all nodes
pub record IsChoosing (posed : Posed) (place : ℕ) (found : DepthSearch) : Type 0 where
  pub so_far : IsInDepth posed found
  pub idle : found.stack ≡ []
  pub seen : AreAgainstSeen posed.labels place found.seen.items
