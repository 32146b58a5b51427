-- Peerings and forced edges where relationships are given.
-- Each law is proved as the contract of a function in src/laws/given_preference.rt.
use Rattle.std.specs.Prelude.{◌↔◌, ℕ, min, max, List, ◌++◌, All, Contains, IsTrue}
use Rattle.relationships.specs.declared.given.Given.{Given}
use Rattle.relationships.specs.Relationship.{Labelling, Orientation, labels_of, ValleyFree}
use Rattle.relationships.specs.Graph.{Edge, edges}
use Rattle.relationships.specs.Selection.{IsForced}
use Rattle.relationships.specs.Preference.{MayPeer, IsRelabelled, ServeEitherWay, NoneLeftOut}
use Rattle.relationships.specs.Givens.{AgreesWith, LabelsSay, names_edge, returns}
use Rattle.relationships.specs.GivenPreference.{NoneNames, IsRelabelledWith, ServeEitherWayWith, NoneLeftOutWith}

-- behind the returns an edge may become a peering exactly if no given names it and it may by the kept paths alone
abbrev pub GivenPeeringLaw : Type 0
GivenPeeringLaw =
    (givens : List Given) (paths kept : List (List ℕ)) (degree : ℕ → ℕ) (ratio : ℕ) (L : Labelling) (e : Edge) →
    AgreesWith givens paths L → Contains (edges paths) e →
    MayPeer degree ratio (returns paths givens ++ kept) L e ↔ (NoneNames givens e × MayPeer degree ratio kept L e)

-- so the peerings that are found edge by edge behind the returns are those of the edges that no given names, by the kept paths alone
abbrev pub GivenRelabellingLaw : Type 0
GivenRelabellingLaw =
    (givens : List Given) (paths kept : List (List ℕ)) (degree : ℕ → ℕ) (ratio : ℕ) (O : Orientation) (last : Labelling) →
    AgreesWith givens paths (labels_of O) →
    IsRelabelled degree ratio (returns paths givens ++ kept) (edges paths) (labels_of O) last ↔
    IsRelabelledWith givens degree ratio kept (edges paths) (labels_of O) last

-- what peerings leave free behind the returns they leave free under the givens, and where no edge is left out behind the returns none is
-- under the givens
abbrev pub GivenPeersLaw : Type 0
GivenPeersLaw =
    (givens : List Given) (paths kept : List (List ℕ)) (L : Labelling) → ((e : Edge) → Contains (edges kept) e → Contains (edges paths) e) →
    (ServeEitherWay L (returns paths givens ++ kept) → ServeEitherWayWith givens paths L kept) ×
    ((degree : ℕ → ℕ) (ratio : ℕ) → AgreesWith givens paths L →
    NoneLeftOut degree ratio (returns paths givens ++ kept) (edges paths) L → NoneLeftOutWith givens degree ratio kept (edges paths) L)

-- an edge of the paths that a given names is forced, whether or not a kept path holds it, and labels under which the returns and the
-- kept paths are valley-free say what the given says
abbrev pub GivenForcedLaw : Type 0
GivenForcedLaw =
    (givens : List Given) (paths kept : List (List ℕ)) (g : Given) → Contains givens g → IsTrue (names_edge paths g) →
    IsForced (returns paths givens ++ kept) (min g.over g.under) (max g.over g.under) ×
    ((L : Labelling) → All (ValleyFree L) (returns paths givens ++ kept) → LabelsSay L g)
