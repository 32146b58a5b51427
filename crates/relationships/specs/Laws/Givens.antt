-- What is said of paths is said of givens by their returns, which stand in front of the paths.
-- Each law is proved as the contract of a function in src/laws/givens.rt.
use Rattle.std.specs.Prelude.{◌≡◌, ◌↔◌, ◌⊎◌, ℕ, ◌≤◌, List, ◌++◌, map, length, All, Contains}
use Rattle.relationships.specs.Relationship.{Orientation, Labelling, ValleyFree, Serves}
use Rattle.relationships.specs.Graph.{Edge, edges}
use Rattle.relationships.specs.declared.given.Given.{Given}
use Rattle.relationships.specs.Givens.{AgreesWith, return_of, returns, ServesWith, NameTwo, NameOnce, IsReturn, GivenClosure}
use Rattle.relationships.specs.Evidence.{IsTriple, NeighboursDiffer, Closure}
use Rattle.relationships.specs.Selection.{IsServable, IsForced}

-- labels agree with the givens exactly if each return is valley-free; so an orientation agrees with them and serves some of the
-- paths exactly if it serves the returns and these
abbrev pub GivenServingLaw : Type 0
GivenServingLaw =
    (givens : List Given) (paths : List (List ℕ)) →
    ((L : Labelling) → AgreesWith givens paths L ↔ All (ValleyFree L) (returns paths givens)) ×
    ((O : Orientation) (some : List (List ℕ)) → ServesWith givens paths O some ↔ Serves O (returns paths givens ++ some))

-- a triple of the returns is "b over a implies a over b", for a given "a over b"; so the closure by triples and givens is that by
-- the triples of the returns and of the paths
abbrev pub GivenClosureLaw : Type 0
GivenClosureLaw =
    (givens : List Given) (paths some : List (List ℕ)) →
    ((x y z : ℕ) → IsTriple (returns paths givens ++ some) x y z ↔ (IsReturn paths givens x y z ⊎ IsTriple some x y z)) ×
    ((a b y z : ℕ) → Closure (returns paths givens ++ some) a b y z ↔ GivenClosure givens paths some a b y z)

-- behind the paths the returns add no edge, and no two neighbours on them are the same
abbrev pub GivenEdgesLaw : Type 0
GivenEdgesLaw =
    (givens : List Given) (paths : List (List ℕ)) →
    (edges (paths ++ returns paths givens) ≡ edges paths) × (NameTwo givens → All NeighboursDiffer (returns paths givens))

-- where no two givens name the same two ASes, there are no more returns than edges
abbrev pub FewReturnsLaw : Type 0
FewReturnsLaw = (givens : List Given) (paths : List (List ℕ)) → NameOnce givens → length (returns paths givens) ≤ length (edges paths)

-- where no two givens name the same two ASes, some orientation agrees with all of them, whatever the paths
abbrev pub GivensServableLaw : Type 0
GivensServableLaw = (givens : List Given) (paths : List (List ℕ)) → NameTwo givens → NameOnce givens → IsServable (returns paths givens)

-- it is all one whether givens are served whose two are no neighbours on the paths: neither whether some orientation serves, nor
-- whether an edge of the paths is forced
abbrev pub AllGivensLaw : Type 0
AllGivensLaw =
    (givens : List Given) (paths some : List (List ℕ)) → NameTwo givens → NameOnce givens →
    ((e : Edge) → Contains (edges some) e → Contains (edges paths) e) →
    (IsServable (returns paths givens ++ some) ↔ IsServable (map return_of givens ++ some)) ×
    ((low high : ℕ) → Contains (edges paths) (low, high) →
    IsForced (returns paths givens ++ some) low high ↔ IsForced (map return_of givens ++ some) low high)
