-- What shows that an order of two neighbours follows, or that no orientation serves.
-- Walks follow the implications along triples (Di Battista, Patrignani and Pizzonia 2003), so they are paths of the implication
-- graph (Aspvall, Plass and Tarjan 1979). The form of the evidence is this project's own.
use Rattle.std.specs.Prelude.{◌≡◌, ◌≢◌, ℕ, ◌+◌, ◌⊎◌, Bool, true, false, List, [], ◌∷◌, ◌++◌, length, map, Contains, ⊤}
use Rattle.relationships.specs.declared.walk.Link.{Link}
use Rattle.relationships.specs.declared.walk.Walk.{Walk}

-- x, y, z stand in the path one behind the other, y at this place from 1
pub record StandAt (path : List ℕ) (at x y z : ℕ) : Type 0 where
  pub before : List ℕ
  pub after : List ℕ
  pub whole : path ≡ before ++ (x ∷ y ∷ z ∷ after)
  pub place : at ≡ length before + 2

-- a triple: three consecutive ASes of the path, read in either direction
abbrev pub TripleAt : List ℕ → ℕ → ℕ → ℕ → ℕ → Type 0
TripleAt path at x y z = StandAt path at x y z ⊎ StandAt path at z y x

-- a triple of one of the paths
abbrev pub IsTriple : List (List ℕ) → ℕ → ℕ → ℕ → Type 0
IsTriple paths x y z = (path : List ℕ) × Contains paths path × ((at : ℕ) × TripleAt path at x y z)

-- paths, each with its number
abbrev pub Numbered : Type 0
Numbered = List (ℕ × List ℕ)

abbrev pub paths_of : Numbered → List (List ℕ)
paths_of A = map (λ p. p.1) A

-- the paths that the flags keep, numbered from n with the others
abbrev pub kept_from : ℕ → List (List ℕ) → List Bool → Numbered
kept_from n [] keeps = []
kept_from n (path ∷ paths) [] = []
kept_from n (path ∷ paths) (true ∷ keeps) = (n, path) ∷ kept_from (n + 1) paths keeps
kept_from n (path ∷ paths) (false ∷ keeps) = kept_from (n + 1) paths keeps

-- the link names a path of A, and a place on it, where x, y, z are a triple
abbrev pub Fits : Numbered → Link → ℕ → ℕ → ℕ → Type 0
Fits A link x y z = (path : List ℕ) × Contains A (link.path, path) × TripleAt path link.at x y z

-- at least two ASes, and a link that fits for each three of them that are consecutive
abbrev pub IsLinked : Numbered → List ℕ → List Link → Type 0
IsLinked A (x ∷ y ∷ []) [] = ⊤
IsLinked A (x ∷ y ∷ z ∷ ases) (link ∷ links) = Fits A link x y z × IsLinked A (y ∷ z ∷ ases) links
IsLinked A _ _ = ⊥

abbrev pub IsWalk : Numbered → Walk → Type 0
IsWalk A w = IsLinked A w.ases w.links

-- x, y stand in the list one behind the other; at its start; at its end
abbrev pub HasPair : List ℕ → ℕ → ℕ → Type 0
HasPair ases x y = (before after : List ℕ) × (ases ≡ before ++ (x ∷ y ∷ after))

-- no two neighbours on the path are the same AS
pub record NeighboursDiffer (path : List ℕ) : Type 0 where
  pub differ : (a b : ℕ) → HasPair path a b → a ≢ b

abbrev pub BeginsWith : List ℕ → ℕ → ℕ → Type 0
BeginsWith ases x y = (after : List ℕ) × (ases ≡ x ∷ y ∷ after)

abbrev pub EndsWith : List ℕ → ℕ → ℕ → Type 0
EndsWith ases x y = (before : List ℕ) × (ases ≡ before ++ (x ∷ y ∷ []))

-- from "x over y" the walk comes to "y over x", and from there to "x over y" again
pub record Refutes (A : Numbered) (w : Walk) : Type 0 where
  pub x : ℕ
  pub y : ℕ
  pub two : x ≢ y
  pub walk : IsWalk A w
  pub begins : BeginsWith w.ases x y
  pub flips : HasPair w.ases y x
  pub ends : EndsWith w.ases x y

-- the walk shows "a over b", where the orders in `shown` are shown already
pub record Shows (A : Numbered) (shown : List (ℕ × ℕ)) (w : Walk) (a b : ℕ) : Type 0 where
  pub walk : IsWalk A w
  pub ends : EndsWith w.ases a b
  -- if b were over a, then a would be over b; or it follows from an order that is shown
  pub begins : BeginsWith w.ases b a ⊎ ((c d : ℕ) × BeginsWith w.ases c d × Contains shown (c, d))
  pub new : Contains shown (a, b) ⊎ Contains shown (b, a) → ⊥

-- the walks show these orders, one each, each from those before it
abbrev pub ShowFrom : Numbered → List (ℕ × ℕ) → List Walk → List (ℕ × ℕ) → Type 0
ShowFrom A shown [] [] = ⊤
ShowFrom A shown (w ∷ walks) ((a, b) ∷ orders) = Shows A shown w a b × ShowFrom A (shown ++ (a, b) ∷ []) walks orders
ShowFrom A shown _ _ = ⊥

abbrev pub Show : Numbered → List Walk → List (ℕ × ℕ) → Type 0
Show A walks orders = ShowFrom A [] walks orders

-- the orders that follow from "a over b" along the triples of the paths: the least set that holds it and is satisfied on
pub data Closure (paths : List (List ℕ)) (a b : ℕ) : ℕ → ℕ → Type 0 where
  start : Closure paths a b a b
  imply : {x y z : ℕ} → Closure paths a b x y → IsTriple paths x y z → Closure paths a b y z

-- no two ASes stand in it in both orders
abbrev pub IsConsistent : List (List ℕ) → ℕ → ℕ → Type 0
IsConsistent paths a b = (y z : ℕ) → Closure paths a b y z → Closure paths a b z y → ⊥
