-- Which serving orientation is preferred (the top of a path by Gao 2001), which edges then become peerings, and what these leave.
use Rattle.std.specs.Prelude.{◌≡◌, ◌≢◌, ◌↔◌, ◌⊎◌, ℕ, zero, suc, ◌+◌, ◌-◌, ◌*◌, ◌≤◌, ◌<◌, min, max, ℤ, pos, ◌-ℤ◌, List, [], ◌∷◌, ◌++◌}
use Rattle.std.specs.Prelude.{nat_lt, ◌==◌, if◌then◌else◌, All, AllPairs, Contains, fold, flat_map, count_by}
use Rattle.std.specs.List.{position_or_len, list_any}
use Rattle.relationships.specs.declared.label.End.{End}
use Rattle.relationships.specs.declared.label.Label.{Label}
use Rattle.relationships.specs.Relationship.{Orientation, Labelling, labels_of, ValleyFree, Serves}
use Rattle.relationships.specs.Graph.{Edge, SameOn, is_same, edges, support}

-- the leftmost AS of highest degree, by its place from 0
abbrev pub top_of : (ℕ → ℕ) → List ℕ → ℕ
top_of degree path =
    let highest = fold (λ m a. max m (degree a)) 0 path in position_or_len (λ a. degree a == highest) path

-- a vote is the AS that is voted provider, and then its neighbour. `climb` steps go up to the top
abbrev pub votes_from : ℕ → ℕ → List ℕ → List (ℕ × ℕ)
votes_from climb a [] = []
votes_from zero a (b ∷ path) = (a, b) ∷ votes_from zero b path
votes_from (suc climb) a (b ∷ path) = (b, a) ∷ votes_from climb b path

abbrev pub votes_on : (ℕ → ℕ) → List ℕ → List (ℕ × ℕ)
votes_on degree [] = []
votes_on degree (a ∷ path) = votes_from (top_of degree (a ∷ path)) a path

-- how many kept paths vote "a over b"
abbrev pub votes : (ℕ → ℕ) → List (List ℕ) → ℕ → ℕ → ℕ
votes degree kept a b = count_by (is_same (a, b)) (flat_map (votes_on degree) kept)

-- the votes for the lower number minus those for the higher
abbrev pub lean : (ℕ → ℕ) → List (List ℕ) → Edge → ℤ
lean degree kept e = pos (votes degree kept e.0 e.1) -ℤ pos (votes degree kept e.1 e.0)

-- the lean without its sign
abbrev pub lead : (ℕ → ℕ) → List (List ℕ) → Edge → ℕ
lead degree kept e =
    let low = votes degree kept e.0 e.1 in let high = votes degree kept e.1 e.0 in (low - high) + (high - low)

-- the end with more votes; then the end of greater degree; then the lower number
abbrev pub wanted : (ℕ → ℕ) → List (List ℕ) → Edge → End
wanted degree kept e =
    let low = votes degree kept e.0 e.1 in
    let high = votes degree kept e.1 e.0 in
    if nat_lt high low then End.Low else (
    if nat_lt low high then End.High else (
    if nat_lt (degree e.0) (degree e.1) then End.High else End.Low))

-- where the edge stands in the list, from 0
abbrev pub place : List Edge → Edge → ℕ
place es e = position_or_len (is_same e) es

-- the same edges by falling lead, and at equal lead in their own order
pub record IsSettlingOrder (lead : Edge → ℕ) (es order : List Edge) : Type 0 where
  pub each : (e : Edge) → Contains es e ↔ Contains order e
  pub falling : AllPairs (λ e f. (lead f < lead e) ⊎ ((lead f ≡ lead e) × (place es e < place es f))) order

-- each edge has its wanted provider exactly if some orientation that serves agrees with that and with all edges before
abbrev pub IsPreferred : List (List ℕ) → (Edge → End) → List Edge → Orientation → Type 0
IsPreferred kept wanted order O =
    (before : List Edge) (e : Edge) (after : List Edge) → order ≡ before ++ (e ∷ after) →
    (O e.0 e.1 ≡ wanted e) ↔ ((O' : Orientation) × Serves O' kept × SameOn before O O' × (O' e.0 e.1 ≡ wanted e))

-- the labelling with this edge as a peering
abbrev pub with_peer : Labelling → Edge → Labelling
with_peer L e low high = if is_same (low, high) e then Label.Peer else L low high

-- the ends of the edge are alike in degree: the greater degree is at most ratio times the lesser
abbrev pub IsAlike : (ℕ → ℕ) → ℕ → Edge → Type 0
IsAlike degree ratio e = max (degree e.0) (degree e.1) ≤ ratio * min (degree e.0) (degree e.1)

-- the edge may become a peering: it is on a kept path, its ends are alike in degree, and all kept paths stay valley-free
pub record MayPeer (degree : ℕ → ℕ) (ratio : ℕ) (kept : List (List ℕ)) (L : Labelling) (e : Edge) : Type 0 where
  pub held : 0 < support kept e
  pub alike : IsAlike degree ratio e
  pub stays : All (ValleyFree (with_peer L e)) kept

-- the last labelling at these edges, and the first at all others
abbrev pub so_far : List Edge → Labelling → Labelling → Labelling
so_far before last first low high = if list_any (is_same (low, high)) before then last low high else first low high

-- edge by edge, each becomes a peering exactly if it may under the labels so far, and else keeps its first label
abbrev pub IsRelabelled : (ℕ → ℕ) → ℕ → List (List ℕ) → List Edge → Labelling → Labelling → Type 0
IsRelabelled degree ratio kept es first last =
    (before : List Edge) (e : Edge) (after : List Edge) → es ≡ before ++ (e ∷ after) →
    ((last e.0 e.1 ≡ Label.Peer) ↔ MayPeer degree ratio kept (so_far before last first) e) ×
    (last e.0 e.1 ≢ Label.Peer → last e.0 e.1 ≡ first e.0 e.1)

-- the second labelling says what the first says, at each of these edges that the first does not call a peering
abbrev pub AgreesOn : List Edge → Labelling → Labelling → Type 0
AgreesOn es L L' =
    All (λ (e : Edge). (L e.0 e.1 ≡ Label.Low → L' e.0 e.1 ≡ Label.Low) × (L e.0 e.1 ≡ Label.High → L' e.0 e.1 ≡ Label.High)) es

-- each orientation that has the providers of the edges that are no peerings serves the paths, whichever way the peerings are read
abbrev pub ServeEitherWay : Labelling → List (List ℕ) → Type 0
ServeEitherWay L paths = (O : Orientation) → AgreesOn (edges paths) L (labels_of O) → Serves O paths

-- no edge of these that is on one of the paths, with ends alike in degree, could be one peering more
abbrev pub NoneLeftOut : (ℕ → ℕ) → ℕ → List (List ℕ) → List Edge → Labelling → Type 0
NoneLeftOut degree ratio paths es L =
    All (λ (e : Edge). L e.0 e.1 ≢ Label.Peer → 0 < support paths e → IsAlike degree ratio e →
    All (ValleyFree (with_peer L e)) paths → ⊥) es
