-- A search along rows. Each edge bears the number of the last round that came to it.
use Rattle.std.specs.Prelude.{◌≡◌, ◌⊎◌, ◌↔◌, ℕ, ◌+◌, ◌<◌, ◌≤◌, List, ◌++◌, length, Some, Contains, slice_get, sum_by, if◌then◌else◌, nat_eq}
use Rattle.line_rules.specs.Neighbours.{HasNext, ReachesRow}

-- the round came to edge k
abbrev pub RoundCameTo : List ℕ → ℕ → ℕ → Type 0
RoundCameTo rounds round k = slice_get rounds k ≡ Some round

-- to how many edges it did not come
abbrev pub unvisited : ℕ → List ℕ → ℕ
unvisited round rounds = sum_by (λ m. if nat_eq m round then 0 else 1) rounds

-- the round came to the edges of `seen`, and noted those that are new to it
pub record RoundComesTo (round : ℕ) (seen old new found found' : List ℕ) : Type 0 where
  pub added : List ℕ
  pub more : found' ≡ found ++ added
  pub visited : (k : ℕ) → Contains seen k → RoundCameTo new round k
  pub from : (k : ℕ) → Contains added k → Contains seen k × (RoundCameTo old round k → ⊥) × RoundCameTo new round k
  pub others : (k v : ℕ) → slice_get new k ≡ Some v → (slice_get old k ≡ Some v) ⊎ ((v ≡ round) × Contains added k)
  pub kept : (k : ℕ) → RoundCameTo old round k → RoundCameTo new round k
  pub many : length new ≡ length old
  pub fewer : unvisited round new + length found' ≤ unvisited round old + length found

-- where all edges found before `next` have been followed
pub record Search (rows : List (List ℕ)) (start round : ℕ) (old new found : List ℕ) (next : ℕ) : Type 0 where
  pub begun : RoundCameTo new round start
  pub reached : (k : ℕ) → Contains found k → ReachesRow rows start k × (RoundCameTo old round k → ⊥) × RoundCameTo new round k
  pub followed : (i k : ℕ) → i < next → slice_get found i ≡ Some k → (j : ℕ) → HasNext rows k j → RoundCameTo new round j
  pub others : (k v : ℕ) → slice_get new k ≡ Some v → (slice_get old k ≡ Some v) ⊎ ((v ≡ round) × Contains found k)
  pub kept : (k : ℕ) → RoundCameTo old round k → RoundCameTo new round k
  pub many : length new ≡ length old
  pub within : next ≤ length found

-- what the round came to has its rows in what it came to
abbrev pub IsRoundClosed : List (List ℕ) → List ℕ → ℕ → Type 0
IsRoundClosed rows rounds round = (i j : ℕ) → RoundCameTo rounds round i → HasNext rows i j → RoundCameTo rounds round j

-- the round came also to all that is reached from start, and found what is new to it
pub record HasSearchedFrom (rows : List (List ℕ)) (start round : ℕ) (old new found : List ℕ) : Type 0 where
  pub exact : (k : ℕ) → RoundCameTo new round k ↔ (RoundCameTo old round k ⊎ ReachesRow rows start k)
  pub noted : (k : ℕ) → Contains found k ↔ (RoundCameTo new round k × (RoundCameTo old round k → ⊥))
  pub others : (k v : ℕ) → slice_get new k ≡ Some v → (slice_get old k ≡ Some v) ⊎ (v ≡ round)
  pub many : length new ≡ length old
