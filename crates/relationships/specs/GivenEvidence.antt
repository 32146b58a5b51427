-- Evidence where relationships are given: walks whose links may name a given, and what they show.
use Rattle.std.specs.Prelude.{◌≡◌, ◌≢◌, ℕ, ◌+◌, ◌-◌, ◌≤◌, ◌<◌, ◌⊎◌, List, [], ◌∷◌, ◌++◌, map, nat_lt, if◌then◌else◌, slice_index_or, Option}
use Rattle.std.specs.Prelude.{Some, None, slice_get, All, Contains, ⊤}
use Rattle.relationships.specs.declared.given.Given.{Given}
use Rattle.relationships.specs.declared.walk.Link.{Link}
use Rattle.relationships.specs.declared.walk.Walk.{Walk}
use Rattle.relationships.specs.Relationship.{ValleyFree}
use Rattle.relationships.specs.Graph.{edges}
use Rattle.relationships.specs.Evidence.{Numbered, paths_of, Fits, HasPair, BeginsWith, EndsWith, NeighboursDiffer}
use Rattle.relationships.specs.Checking.{kept_of, Claim, IsBorneOut, ProbesFrom, claimed_labels}
use Rattle.relationships.specs.Givens.{AgreesWith, NameTwo, NameOnce, return_of}

-- the given of this number, from 1
abbrev pub IsGiven : List Given → ℕ → Given → Type 0
IsGiven givens n g = (1 ≤ n) × (slice_get givens (n - 1) ≡ Some g)

-- a link with path 0 names the given "a over b" of its number, and fits b, a, b: if b were over a, then a would be over b
pub record FitsGiven (givens : List Given) (link : Link) (x y z : ℕ) : Type 0 where
  pub apart : link.path ≡ 0
  pub given : Given
  pub named : IsGiven givens link.at given
  pub first : x ≡ given.under
  pub second : y ≡ given.over
  pub third : z ≡ given.under

-- the link names a given, or a path of A and a place on it
abbrev pub FitsWith : List Given → Numbered → Link → ℕ → ℕ → ℕ → Type 0
FitsWith givens A link x y z = FitsGiven givens link x y z ⊎ Fits A link x y z

-- at least two ASes, and a link that fits for each three of them that are consecutive
abbrev pub IsLinkedWith : List Given → Numbered → List ℕ → List Link → Type 0
IsLinkedWith givens A (x ∷ y ∷ []) [] = ⊤
IsLinkedWith givens A (x ∷ y ∷ z ∷ ases) (link ∷ links) = FitsWith givens A link x y z × IsLinkedWith givens A (y ∷ z ∷ ases) links
IsLinkedWith givens A _ _ = ⊥

-- from "x over y" the walk comes to "y over x", and from there to "x over y" again
pub record RefutesWith (givens : List Given) (A : Numbered) (w : Walk) : Type 0 where
  pub x : ℕ
  pub y : ℕ
  pub two : x ≢ y
  pub walk : IsLinkedWith givens A w.ases w.links
  pub begins : BeginsWith w.ases x y
  pub flips : HasPair w.ases y x
  pub ends : EndsWith w.ases x y

-- the walk shows "a over b", where the orders in `shown` are shown already
pub record ShowsWith (givens : List Given) (A : Numbered) (shown : List (ℕ × ℕ)) (w : Walk) (a b : ℕ) : Type 0 where
  pub walk : IsLinkedWith givens A w.ases w.links
  pub ends : EndsWith w.ases a b
  pub begins : BeginsWith w.ases b a ⊎ ((c d : ℕ) × BeginsWith w.ases c d × Contains shown (c, d))
  pub new : Contains shown (a, b) ⊎ Contains shown (b, a) → ⊥

abbrev pub ShowFromWith : List Given → Numbered → List (ℕ × ℕ) → List Walk → List (ℕ × ℕ) → Type 0
ShowFromWith givens A shown [] [] = ⊤
ShowFromWith givens A shown (w ∷ walks) ((a, b) ∷ orders) =
    ShowsWith givens A shown w a b × ShowFromWith givens A (shown ++ (a, b) ∷ []) walks orders
ShowFromWith givens A shown _ _ = ⊥

-- each lost path has a walk that refutes by the givens over the paths kept before it and itself; a kept one has no walk. The paths
-- are numbered from n
abbrev pub LostFromWith : List Given → ℕ → Numbered → List (List ℕ) → List (Option Walk) → Type 0
LostFromWith givens n kept [] [] = ⊤
LostFromWith givens n kept (path ∷ paths) (None ∷ walks) = LostFromWith givens (n + 1) (kept ++ (n, path) ∷ []) paths walks
LostFromWith givens n kept (path ∷ paths) (Some walk ∷ walks) =
    RefutesWith givens (kept ++ (n, path) ∷ []) walk × LostFromWith givens (n + 1) kept paths walks
LostFromWith givens n kept _ _ = ⊥

-- what is served: the returns of all givens, and then these paths
abbrev pub served_with : List Given → List (List ℕ) → List (List ℕ)
served_with givens paths = map return_of givens ++ paths

-- the why walks show orders, each mark is borne out by these and by the probes, and each probe serves for an edge
pub record MarksHoldWith (givens : List Given) (kept : Numbered) (claims : List Claim) (whys : List Walk)
    (probes : List (ℕ × ℕ)) : Type 0 where
  pub orders : List (ℕ × ℕ)
  pub shown : ShowFromWith givens kept [] whys orders
  pub marks : All (IsBorneOut (served_with givens (paths_of kept)) orders probes) claims
  pub probes_serve : ProbesFrom (served_with givens (paths_of kept)) claims [] probes

-- the rules on paths and edges that decide what is kept and what is forced, where relationships are given, each of an edge
pub record MeetsRulesWith (givens : List Given) (paths : List (List ℕ)) (walks : List (Option Walk)) (claims : List Claim)
    (whys : List Walk) (probes : List (ℕ × ℕ)) : Type 0 where
  pub two : NameTwo givens
  pub neighbours_differ : All NeighboursDiffer paths
  pub lost : LostFromWith givens 1 [] paths walks
  pub each_edge : map (λ c. (c.low, c.high)) claims ≡ edges paths
  pub valley_free : All (ValleyFree (claimed_labels claims)) (served_with givens (paths_of (kept_of paths walks)))
  pub marks : MarksHoldWith givens (kept_of paths walks) claims whys probes

-- the same rules where a given of no edge binds nothing: walks, marks and closures may use all givens, and the labels agree with those
-- whose two are an edge
pub record MeetsAgreeingRules (givens : List Given) (paths : List (List ℕ)) (walks : List (Option Walk)) (claims : List Claim)
    (whys : List Walk) (probes : List (ℕ × ℕ)) : Type 0 where
  pub two : NameTwo givens
  pub once : NameOnce givens
  pub neighbours_differ : All NeighboursDiffer paths
  pub lost : LostFromWith givens 1 [] paths walks
  pub each_edge : map (λ c. (c.low, c.high)) claims ≡ edges paths
  pub agrees : AgreesWith givens paths (claimed_labels claims)
  pub valley_free : All (ValleyFree (claimed_labels claims)) (paths_of (kept_of paths walks))
  pub marks : MarksHoldWith givens (kept_of paths walks) claims whys probes

-- ---- links into rows of returns, which stand behind n paths and are numbered on from these

-- a link into the row of a return, as a link that names the given. Of the j-th row, from 0, the given's number is the j-th
abbrev pub given_link : ℕ → List ℕ → Link → Link
given_link n numbers link =
    if nat_lt n link.path then record { path = 0; at = slice_index_or numbers (link.path - (n + 1)) 0 } else link

abbrev pub with_given_links : ℕ → List ℕ → Walk → Walk
with_given_links n numbers w = record { ases = w.ases; links = map (given_link n numbers) w.links }

-- each of the rows is the return of the given that its number names
abbrev pub AreReturnRows : List Given → ℕ → List ℕ → Numbered → Type 0
AreReturnRows givens n numbers rows = (m : ℕ) (path : List ℕ) → Contains rows (m, path) →
    (n < m) × ((g : Given) × IsGiven givens (slice_index_or numbers (m - (n + 1)) 0) g × (path ≡ return_of g))

-- the paths have numbers up to n
abbrev pub AreUpTo : ℕ → Numbered → Type 0
AreUpTo n A = (m : ℕ) (path : List ℕ) → Contains A (m, path) → m ≤ n
