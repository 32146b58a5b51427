-- Relationships that are known beforehand, and how they are served like paths.
use Rattle.std.specs.Prelude.{◌≡◌, ◌≢◌, ℕ, Bool, List, [], ◌∷◌, map, filter, All, Contains, IsTrue, nat_lt, if◌then◌else◌}
use Rattle.std.specs.List.{list_any, AllPairs}
use Rattle.relationships.specs.declared.label.End.{End}
use Rattle.relationships.specs.declared.given.Given.{Given}
use Rattle.relationships.specs.Relationship.{Labelling, Orientation, labels_of, is_over, Serves}
use Rattle.relationships.specs.Graph.{edge_of, is_same, edges}
use Rattle.relationships.specs.Evidence.{IsTriple}

-- the two of the given are neighbours on one of the paths
abbrev pub names_edge : List (List ℕ) → Given → Bool
names_edge paths g = list_any (is_same (edge_of g.over g.under)) (edges paths)

-- the labels say what the given says
abbrev pub LabelsSay : Labelling → Given → Type 0
LabelsSay L g = IsTrue (is_over L g.over g.under)

-- they say it of each given whose two are neighbours on the paths
abbrev pub AgreesWith : List Given → List (List ℕ) → Labelling → Type 0
AgreesWith givens paths L = All (λ g. IsTrue (names_edge paths g) → LabelsSay L g) givens

-- the return of a given: from the customer to the provider and back. Its steps are up and down where the given holds, down and up
-- where its opposite does, and both flat where the two are peers: so it is valley-free exactly where the given holds
abbrev pub return_of : Given → List ℕ
return_of g = g.under ∷ g.over ∷ g.under ∷ []

-- the returns of those givens whose two are neighbours on the paths, in order
abbrev pub returns : List (List ℕ) → List Given → List (List ℕ)
returns paths givens = map return_of (filter (names_edge paths) givens)

-- an orientation of the paths' edges agrees with the givens and serves some of the paths
abbrev pub ServesWith : List Given → List (List ℕ) → Orientation → List (List ℕ) → Type 0
ServesWith givens paths O some = AgreesWith givens paths (labels_of O) × Serves O some

-- each given names two ASes
abbrev pub NameTwo : List Given → Type 0
NameTwo givens = All (λ g. g.over ≢ g.under) givens

-- no two of them name the same two ASes
abbrev pub NameOnce : List Given → Type 0
NameOnce givens = AllPairs (λ g h. edge_of g.over g.under ≢ edge_of h.over h.under) givens

-- the end of the edge of two ASes at which the first stands
abbrev pub end_by : ℕ → ℕ → End
end_by over under = if nat_lt over under then End.Low else End.High

-- the provider that the first given of an edge names
abbrev pub by_givens : List Given → Orientation
by_givens [] low high = End.Low
by_givens (g ∷ givens) low high = if is_same (edge_of g.over g.under) (low, high) then end_by g.over g.under else by_givens givens low high

-- "b over a" implies "a over b", where "a over b" is given and the two are neighbours
pub record IsReturn (paths : List (List ℕ)) (givens : List Given) (x y z : ℕ) : Type 0 where
  pub given : Given
  pub there : Contains givens given
  pub named : IsTrue (names_edge paths given)
  pub first : x ≡ given.under
  pub second : y ≡ given.over
  pub third : z ≡ given.under

-- the orders that follow from "a over b" along the triples of `some` and by the givens whose two are neighbours on `paths`
pub data GivenClosure (givens : List Given) (paths some : List (List ℕ)) (a b : ℕ) : ℕ → ℕ → Type 0 where
  start : GivenClosure givens paths some a b a b
  imply : {x y z : ℕ} → GivenClosure givens paths some a b x y → IsTriple some x y z → GivenClosure givens paths some a b y z
  force : {x y z : ℕ} → GivenClosure givens paths some a b x y → IsReturn paths givens x y z → GivenClosure givens paths some a b y z
