-- Edges that are tested together: those that flip with any of some open lines, and those that are ruled out by these.
use Rattle.std.specs.Prelude.{◌≡◌, ◌⊎◌, ℕ, ◌≤◌, ◌<◌, List, Some, length, slice_get, All, Contains}
use Rattle.line_rules.specs.Neighbours.{HasNext, EachHasRow, IsMutual, ReachesRow}
use Rattle.line_rules.specs.Searching.{RoundCameTo, IsRoundClosed}
use Rattle.line_rules.specs.declared.marks.batch.Batch.{Batch}

-- of the edges to which the round came, none conflicts with another
abbrev pub IsAgreeing : List (List ℕ) → List ℕ → ℕ → Type 0
IsAgreeing conflicting rounds round = (i j : ℕ) → RoundCameTo rounds round i → RoundCameTo rounds round j → HasNext conflicting i j → ⊥

-- of the edges that flip where this one does, none conflicts with another
abbrev pub AgreesAlone : List (List ℕ) → List (List ℕ) → ℕ → Type 0
AgreesAlone implied conflicting start = (i j : ℕ) → ReachesRow implied start i → ReachesRow implied start j → HasNext conflicting i j → ⊥

-- the edges to which the latest round came can all flip at once: those that they imply are among them, and none conflicts with another
pub record CanFlipTogether (implied conflicting : List (List ℕ)) (rounds : List ℕ) (round : ℕ) : Type 0 where
  pub closed : IsRoundClosed implied rounds round
  pub agreeing : IsAgreeing conflicting rounds round
  pub latest : All (λ m. m ≤ round) rounds

-- the edges of `seen` bear the number 0, and the others what they bore
pub record HasForgotten (seen old new : List ℕ) : Type 0 where
  pub many : length new ≡ length old
  pub cases : (k v : ℕ) → slice_get new k ≡ Some v → (v ≡ 0) ⊎ ((slice_get old k ≡ Some v) × (Contains seen k → ⊥))
  pub kept : (k v : ℕ) → slice_get old k ≡ Some v → (Contains seen k → ⊥) → slice_get new k ≡ Some v

-- what conflicts with an edge to which the round came is ruled out, and so is what implies an edge that is
pub record RulesOut (conflicting implying : List (List ℕ)) (rounds ruled : List ℕ) (round : ℕ) : Type 0 where
  pub clashing : (i j : ℕ) → RoundCameTo rounds round i → HasNext conflicting i j → RoundCameTo ruled round j
  pub closed : IsRoundClosed implying ruled round
  pub latest : All (λ m. m ≤ round) ruled

-- the round ruled out the edges of which P holds, and what implies one of them
pub record HasRuledOut (implying : List (List ℕ)) (round : ℕ) (P : ℕ → Type 0) (old new : List ℕ) : Type 0 where
  pub came : (k : ℕ) → P k → RoundCameTo new round k
  pub kept : (k : ℕ) → RoundCameTo old round k → RoundCameTo new round k
  pub closed : IsRoundClosed implying new round
  pub latest : All (λ m. m ≤ round) new
  pub many : length new ≡ length old

-- the rows belong together: those of `implying` have all that those of `implied` have, the other way round
pub record AreRows (implied conflicting implying : List (List ℕ)) : Type 0 where
  pub same : length conflicting ≡ length implied
  pub turned_many : length implying ≡ length implied
  pub inside : EachHasRow implied
  pub conflicts : EachHasRow conflicting
  pub turned_inside : EachHasRow implying
  pub both_ways : IsMutual conflicting
  pub turned : (i j : ℕ) → HasNext implied i j → HasNext implying j i

-- no edge, of so many, bears a number above that of the round
pub record HasRounds (count : ℕ) (batch : Batch) : Type 0 where
  pub many : length batch.rounds.items ≡ count
  pub ruled_many : length batch.ruled.items ≡ count
  pub latest : All (λ m. m ≤ batch.round) batch.rounds.items
  pub ruled_latest : All (λ m. m ≤ batch.round) batch.ruled.items

-- and none bears that of the round
pub record IsBegun (count : ℕ) (batch : Batch) : Type 0 where
  pub many : length batch.rounds.items ≡ count
  pub ruled_many : length batch.ruled.items ≡ count
  pub none : All (λ m. m < batch.round) batch.rounds.items
  pub none_ruled : All (λ m. m < batch.round) batch.ruled.items

-- the edges of the batch can flip together, and what can't flip with them is ruled out
pub record IsBatch (implied conflicting implying : List (List ℕ)) (batch : Batch) : Type 0 where
  pub many : length batch.rounds.items ≡ length implied
  pub ruled_many : length batch.ruled.items ≡ length implied
  pub together : CanFlipTogether implied conflicting batch.rounds.items batch.round
  pub out : RulesOut conflicting implying batch.rounds.items batch.ruled.items batch.round
