-- Walks and fates in flat lists, each given by its parts.
use Rattle.std.specs.Prelude.{ℕ, ◌-◌, ◌<◌, ◌==◌, if◌then◌else◌, List, [], ◌∷◌, All, length, map, slice_index_or, Option, Some, None, IfSome}
use Rattle.relationships.specs.declared.walk.Link.{Link}
use Rattle.relationships.specs.declared.walk.Walk.{Walk}
use Rattle.relationships.specs.declared.fate.Fate.{Fate}
use Rattle.relationships.specs.declared.fate.Fate.TheVariants as fate

-- the walk of these ASes and links
abbrev pub walk_with : List ℕ → List Link → Walk
walk_with ases links = record { ases = ases; links = links }

-- each list of ASes with the links of the same place
abbrev pub walks_by : List (List ℕ) → List (List Link) → List Walk
walks_by [] rows = []
walks_by (ases ∷ more) [] = []
walks_by (ases ∷ more) (links ∷ rows) = walk_with ases links ∷ walks_by more rows

-- the fate of a path that has the walk in this place, or none
abbrev pub fate_by : List Walk → Option ℕ → Fate
fate_by walks None = fate.Kept
fate_by walks (Some place) = fate.Lost (slice_index_or walks place (walk_with [] []))

-- the place of the walk with this number, from 1, and none for 0
abbrev pub place_by : ℕ → Option ℕ
place_by number = if number == 0 then None else Some (number - 1)

abbrev pub places_by : List ℕ → List (Option ℕ)
places_by numbers = map place_by numbers

abbrev pub fates_by : List Walk → List (Option ℕ) → List Fate
fates_by walks places = map (fate_by walks) places

-- the place, if there is one, is that of a walk
abbrev pub IsWalkPlace : List Walk → Option ℕ → Type 0
IsWalkPlace walks place = IfSome place (λ k. k < length walks)

abbrev pub AreWalkPlaces : List Walk → List (Option ℕ) → Type 0
AreWalkPlaces walks places = All (IsWalkPlace walks) places
