-- The routes of one record, each merged before the first of them is taken in, and judged only where its path wasn't found.
use Rattle.std.specs.Prelude.{◌≡◌, ℕ, Bool, true, false, List, [], ◌∷◌, ◌++◌, length, map, filter, slice_get, Option, Some, Result, Ok, Err}
use Rattle.path_clean.specs.declared.cleaned.Sets.{Sets}
use Rattle.path_clean.specs.declared.cleaned.Cause.{Cause}
use Rattle.path_clean.specs.declared.cleaned.Cleaned.{Cleaned}
use Rattle.path_clean.specs.declared.cleaned.Cleaned.TheVariants.{Path}
use Rattle.path_clean.specs.Clean.{clean_of, cleaned_as, merged_of, judge_merged}
use Rattle.path_clean.specs.Paths.{is_cleaned}
use Rattle.path_table.specs.Rows.{Counted}
use Rattle.path_table.specs.Table.{place_of}
use Rattle.dump_read.specs.declared.taking.Untaken.{Untaken}
use Rattle.dump_read.specs.Refusals.{IsLimit}
use Rattle.path_attrs.specs.declared.fault.RibFault.{RibFault}
use Rattle.rib_bodies.specs.declared.rib.Entry.{Entry}
use Rattle.dump_read.specs.declared.records.Unread.{Unread}
use Rattle.dump_read.specs.declared.records.Unread.TheVariants as unread
use Rattle.dump_read.specs.declared.taking.Untaken.TheVariants as untaken
use Rattle.dump_read.specs.Routes.{Route}
use Rattle.path_segments.specs.declared.as_path.Width.TheVariants.{Four}
use Rattle.dump_read.specs.Taking.{Taken, take_cleaned, take_routes, Takes, TakesSome}

-- what the routes were merged to, and at which places in a table the paths of the first of them were found
pub record Batched : Type 0 where
  pub routes : List Cleaned
  pub places : List (Option ℕ)

-- each route by its cause and its path
abbrev pub merged_by : List (Option Cause) → List (List ℕ) → List Cleaned
merged_by [] paths = []
merged_by (cause ∷ causes) [] = []
merged_by (cause ∷ causes) (path ∷ paths) = cleaned_as cause path ∷ merged_by causes paths

-- a cause and a path for each route
pub record IsBatch (causes : List (Option Cause)) (paths : List (List ℕ)) : Type 0 where
  pub same : length causes ≡ length paths

-- where the path of a route was found it stands, so it is clean
pub record StandsAt (rows : List Counted) (id : ℕ) (path : List ℕ) : Type 0 where
  pub place : place_of rows path ≡ Some id
  pub clean : is_cleaned path ≡ true

abbrev pub StandAtPlaces : List Counted → Batched → Type 0
StandAtPlaces rows batch =
    (k id : ℕ) (path : List ℕ) → slice_get batch.places k ≡ Some (Some id) → slice_get batch.routes k ≡ Some (Path path)
    → StandsAt rows id path

-- the route of this place was taken in
abbrev pub TakesAt : Batched → ℕ → (old new : Taken) → Type 0
TakesAt batch k old new = (route : Cleaned) → slice_get batch.routes k ≡ Some route → take_cleaned old (judge_merged route) ≡ Ok new

-- the limit that was answered is the one that the route of this place meets
abbrev pub IsLimitAt : Batched → ℕ → Taken → Untaken → Type 0
IsLimitAt batch k old why = (route : Cleaned) → slice_get batch.routes k ≡ Some route → IsLimit (take_cleaned old (judge_merged route)) why

-- what each of the routes is cleaned to
abbrev pub cleaned : Sets → List Route → List Cleaned
cleaned sets routes = map (λ route. clean_of sets route.width route.attrs) routes

-- what each of the routes is merged to
abbrev pub merged : Sets → List Route → List Cleaned
merged sets routes = map (λ route. merged_of sets route.width route.attrs) routes

-- these routes were merged to what stands in the batch
abbrev pub AreOf : Sets → List Route → Batched → Type 0
AreOf sets routes batch = batch.routes ≡ merged sets routes

-- what each of the entries is merged to
abbrev pub merged_entries : Sets → List Entry → List Cleaned
merged_entries sets entries = map (λ entry. merged_of sets Four entry.attrs) entries

-- an entry was merged behind the others, if its route counts
abbrev pub MergesOne : Sets → Bool → Entry → (old new : Batched) → Type 0
MergesOne sets true entry old new = new.routes ≡ old.routes ++ merged_of sets Four entry.attrs ∷ []
MergesOne sets false entry old new = new.routes ≡ old.routes

-- the entries that were read, those of them that count, were merged to what stands in the batch
abbrev pub MergesRead : Sets → (Entry → Bool) → Result (List Entry) RibFault → Batched → Type 0
MergesRead sets test read batch = (entries : List Entry) × (read ≡ Ok entries) × (batch.routes ≡ merged_entries sets (filter test entries))

-- the fault is that of the reading, and no limit is met; memory may always run out
abbrev pub IsUnmerged : {A : Type 0} → Result A RibFault → Unread → Type 0
IsUnmerged read (unread.Fault fault) = read ≡ Err fault
IsUnmerged read (unread.Untaken (untaken.Limit kind)) = ⊥
IsUnmerged read (unread.Untaken untaken.NoMemory) = Unit {0}

-- all routes of the batch were taken in
abbrev pub TakesBatch : Batched → (old new : Taken) → Type 0
TakesBatch batch old new = (sets : Sets) (routes : List Route) → AreOf sets routes batch → Takes sets old routes new

-- the limit that was answered is the first that is met
abbrev pub IsBatchLimit : Batched → Taken → Untaken → Type 0
IsBatchLimit batch old why = (sets : Sets) (routes : List Route) → AreOf sets routes batch → IsLimit (take_routes sets old routes) why

-- some of the first were taken in
abbrev pub TakesSomeOfBatch : Batched → (old new : Taken) → Type 0
TakesSomeOfBatch batch old new = (sets : Sets) (routes : List Route) → AreOf sets routes batch → TakesSome sets old routes new
