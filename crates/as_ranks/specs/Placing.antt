-- How ranks are put in order and get their places. These words are the body's own: no reader of a public clause needs them.
use Rattle.std.specs.Prelude.{◌≡◌, ◌⊎◌, ◌-◌, ◌^◌, ℕ, ◌<◌, ◌≤◌, List, Some, map, length, slice_get}
use Rattle.std.specs.List.{AllPairs, IsDistinct}
use Rattle.std.specs.Prelude.{nat_eq}
use Rattle.tor_digraph.specs.Closing.{Has}
use Rattle.as_rel.specs.declared.line.RelLine.{RelLine}
use Rattle.as_ranks.specs.declared.rank.Rank.{Rank}
use Rattle.as_ranks.specs.Named.{IsNamed}
use Rattle.as_ranks.specs.Ranks.{IsMeasured, place_among}

-- a rank for each AS that is named, in any order, and without its place
pub record AreMeasured (rel : List RelLine) (ranks : List Rank) : Type 0 where
  pub each : (k : ℕ) (r : Rank) → slice_get ranks k ≡ Some r → IsMeasured rel r
  pub all : (a : ℕ) → IsNamed rel a → (r : Rank) × Has ranks r × (r.number ≡ a)
  pub once : IsDistinct nat_eq (map (λ r. r.number) ranks)

-- what ranks are sorted by
abbrev pub rank_key : Rank → ℕ × ℕ
rank_key r = (2 ^ 32 - 1 - r.cone, r.number)

abbrev pub HasShortCone : Rank → Type 0
HasShortCone r = r.cone < 2 ^ 32

-- the first has a greater cone, or an equal one and no greater number
abbrev pub RanksNoLater : Rank → Rank → Type 0
RanksNoLater r s = (s.cone < r.cone) ⊎ ((r.cone ≡ s.cone) × (r.number ≤ s.number))

-- the same rank, with its place
abbrev pub with_place : List Rank → Rank → Rank
with_place ranks r = record r { place = place_among ranks r }

-- each rank has its place, and is else as it was
pub record ArePlaced (old new : List Rank) : Type 0 where
  pub many : length new ≡ length old
  pub each : (k : ℕ) (r : Rank) → slice_get new k ≡ Some r → (s : Rank) × (slice_get old k ≡ Some s) × (r ≡ with_place old s)

-- the same of the first ranks alone
pub record ArePlacedTo (upto : ℕ) (old new : List Rank) : Type 0 where
  pub many : length new ≡ length old
  pub done : (k : ℕ) (r : Rank) → k < upto → slice_get new k ≡ Some r → (s : Rank) × (slice_get old k ≡ Some s) × (r ≡ with_place old s)
  pub left : (k : ℕ) (r : Rank) → upto ≤ k → slice_get new k ≡ Some r → slice_get old k ≡ Some r

-- it is the place of the rank that stood there
abbrev pub IsPlaceAt : List Rank → ℕ → ℕ → Type 0
IsPlaceAt ranks k place =
    (old : List Rank) (s : Rank) → AllPairs RanksNoLater old → ArePlacedTo k old ranks → slice_get old k ≡ Some s →
    place ≡ place_among old s
