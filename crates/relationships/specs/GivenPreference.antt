-- Which edges become peerings where relationships are given, and what these leave.
use Rattle.std.specs.Prelude.{◌≡◌, ◌≢◌, ◌↔◌, ℕ, ◌<◌, List, ◌++◌, ◌∷◌, All}
use Rattle.relationships.specs.declared.given.Given.{Given}
use Rattle.relationships.specs.declared.label.Label.{Label}
use Rattle.relationships.specs.Relationship.{Labelling, Orientation, labels_of, ValleyFree}
use Rattle.relationships.specs.Graph.{Edge, edge_of, edges, support}
use Rattle.relationships.specs.Preference.{MayPeer, AgreesOn, IsAlike, so_far, with_peer}
use Rattle.relationships.specs.Givens.{ServesWith}

-- no given names the two ends of the edge
abbrev pub NoneNames : List Given → Edge → Type 0
NoneNames givens e = All (λ g. edge_of g.over g.under ≢ e) givens

-- edge by edge, each becomes a peering exactly if no given names it and it may under the labels so far, and else keeps its first label
abbrev pub IsRelabelledWith : List Given → (ℕ → ℕ) → ℕ → List (List ℕ) → List Edge → Labelling → Labelling → Type 0
IsRelabelledWith givens degree ratio kept es first last =
    (before : List Edge) (e : Edge) (after : List Edge) → es ≡ before ++ (e ∷ after) →
    ((last e.0 e.1 ≡ Label.Peer) ↔ (NoneNames givens e × MayPeer degree ratio kept (so_far before last first) e)) ×
    (last e.0 e.1 ≢ Label.Peer → last e.0 e.1 ≡ first e.0 e.1)

-- each orientation that has the providers of those of the paths' edges that are no peerings agrees with the givens and serves the kept
-- paths, whichever way the peerings are read
abbrev pub ServeEitherWayWith : List Given → List (List ℕ) → Labelling → List (List ℕ) → Type 0
ServeEitherWayWith givens paths L kept = (O : Orientation) → AgreesOn (edges paths) L (labels_of O) → ServesWith givens paths O kept

-- no edge of these that no given names and that is on a kept path, with ends alike in degree, could be one peering more
abbrev pub NoneLeftOutWith : List Given → (ℕ → ℕ) → ℕ → List (List ℕ) → List Edge → Labelling → Type 0
NoneLeftOutWith givens degree ratio kept es L =
    All (λ (e : Edge). NoneNames givens e → L e.0 e.1 ≢ Label.Peer → 0 < support kept e → IsAlike degree ratio e →
    All (ValleyFree (with_peer L e)) kept → ⊥) es
