-- What taking routes in comes to: the distinct paths with their times, and how many routes are set aside for each cause.
use Rattle.std.specs.Prelude.{◌≡◌, ◌↔◌, ◌≤◌, ◌<◌, ◌+◌, ◌-◌, ◌^◌, ◌==◌, ℕ, min, Bool, false, List, [], ◌∷◌, ◌++◌, length, sum_by, count_by}
use Rattle.std.specs.Prelude.{flat_map, filter_map, bytes_eq, Option, Some, None, Ok, Err}
use Rattle.std.specs.List.{list_any}
use Rattle.path_clean.specs.declared.cleaned.Sets.{Sets}
use Rattle.path_clean.specs.declared.cleaned.Cause.{Cause}
use Rattle.path_clean.specs.declared.cleaned.Cleaned.{Cleaned}
use Rattle.path_clean.specs.declared.cleaned.Cleaned.TheVariants.{Path, Aside}
use Rattle.path_clean.specs.Clean.{clean_of}
use Rattle.path_clean.specs.Counts.{no_counts, cause_count, place_of_cause}
use Rattle.tor_arena.specs.Limits.{max_numbers}
use Rattle.path_table.specs.Table.{distinct_paths, counted}
use Rattle.dump_read.specs.declared.error.LimitKind.{LimitKind}
use Rattle.dump_read.specs.declared.error.LimitKind.TheVariants.{Paths, Numbers, Bytes}
use Rattle.dump_read.specs.Routes.{Route}
use Rattle.dump_read.specs.Wanted.{Wanted, file_routes}
use Rattle.dump_read.specs.Taking.{Taken, take_routes, Takes}
use Rattle.dump_read.specs.Seen.{of_file}
use Rattle.dump_read.specs.Batches.{cleaned}

-- the path that a route was cleaned to, unless it was set aside
abbrev pub path_in : Cleaned → Option (List ℕ)
path_in (Path path) = Some path
path_in (Aside cause) = None

-- the route was set aside for this cause
abbrev pub is_aside : Cause → Cleaned → Bool
is_aside cause (Path path) = false
is_aside cause (Aside other) = place_of_cause other == place_of_cause cause

-- the paths of the routes that are cleaned to one, in order
abbrev pub cleaned_paths : Sets → List Route → List (List ℕ)
cleaned_paths sets routes = filter_map path_in (cleaned sets routes)

-- how many of the routes are set aside for this cause
abbrev pub set_aside : Sets → Cause → List Route → ℕ
set_aside sets cause routes = count_by (is_aside cause) (cleaned sets routes)

-- all that is taken in is of these routes: the rows are their distinct paths in order of first appearance, each with how often it
-- came, and each count is how many of them are set aside for that cause, up to 2 ^ 64 - 1
pub record IsTakenOf (sets : Sets) (routes : List Route) (taken : Taken) : Type 0 where
  pub rows : taken.table.rows ≡ counted (cleaned_paths sets routes)
  pub asides : (cause : Cause) → cause_count cause taken.counts ≡ min (set_aside sets cause routes) (2 ^ 64 - 1)

-- nothing is taken in yet
pub record IsEmpty (taken : Taken) : Type 0 where
  pub rows : taken.table.rows ≡ []
  pub counts : taken.counts ≡ no_counts

-- what is taken in from nothing on
abbrev pub TakingLaw : Type 0
TakingLaw =
    (sets : Sets) (routes : List Route) (old new : Taken)
    → IsEmpty old → Takes sets old routes new → IsTakenOf sets routes new

-- the same behind other routes: as if all had been taken in at once
abbrev pub TakingOnLaw : Type 0
TakingOnLaw =
    (sets : Sets) (before routes : List Route) (old new : Taken)
    → IsTakenOf sets before old → Takes sets old routes new → IsTakenOf sets (before ++ routes) new

-- ---- dumps

-- the routes of files of these octets that count, in order
abbrev pub routes_in_files : Wanted → List (List ℕ) → List Route
routes_in_files wanted files = flat_map (file_routes wanted) files

-- of a dump that is there and is read to its end, behind others
pub record IsOneMore (wanted : Wanted) (before : List (List ℕ)) (file : Option (List ℕ)) (new : Taken) : Type 0 where
  pub octets : List ℕ
  pub there : file ≡ Some octets
  pub taken : IsTakenOf wanted.sets (routes_in_files wanted (before ++ octets ∷ [])) new

-- before the first dump nothing is taken in, and behind each all routes of the dumps so far that count
pub record DumpLaw : Type 0 where
  pub first : (wanted : Wanted) (old : Taken) → IsEmpty old → IsTakenOf wanted.sets (routes_in_files wanted []) old
  pub further : (wanted : Wanted) (dump : ℕ) (before : List (List ℕ)) (file : Option (List ℕ)) (old new : Taken)
      → IsTakenOf wanted.sets (routes_in_files wanted before) old → of_file wanted dump old file ≡ Ok new → IsOneMore wanted before file new

-- ---- limits

-- with this path more than these distinct ones a limit would be passed: they are as many as may be, or fewer, and with it they
-- would have too many numbers in sum
abbrev pub PassesLimit : LimitKind → (limit : ℕ) → (known : List (List ℕ)) → (path : List ℕ) → Type 0
PassesLimit Paths limit known path = length known ≡ limit
PassesLimit Numbers limit known path = (length known < limit) × (max_numbers < sum_by length known + length path)
PassesLimit Bytes limit known path = ⊥

-- some of the first routes were taken in, and the path of the next one is new and would pass the limit
pub record StopsAtLimit (sets : Sets) (before routes : List Route) (old : Taken) (kind : LimitKind) : Type 0 where
  pub first : List Route
  pub route : Route
  pub rest : List Route
  pub parts : routes ≡ first ++ route ∷ rest
  pub mid : Taken
  pub takes : Takes sets old first mid
  pub path : List ℕ
  pub cleans : clean_of sets route.width route.attrs ≡ Path path
  pub is_new : list_any (λ other. bytes_eq other path) (distinct_paths (cleaned_paths sets (before ++ first))) ≡ false
  pub passes : PassesLimit kind old.table.limit (distinct_paths (cleaned_paths sets (before ++ first))) path

-- why routes are refused
abbrev pub LimitLaw : Type 0
LimitLaw =
    (sets : Sets) (before routes : List Route) (old : Taken) (kind : LimitKind)
    → IsTakenOf sets before old → take_routes sets old routes ≡ Err kind → StopsAtLimit sets before routes old kind

-- the distinct ones of the paths are at most so many, and have at most `max_numbers` numbers in sum
pub record Fit (limit : ℕ) (paths : List (List ℕ)) : Type 0 where
  pub paths_few : length (distinct_paths paths) ≤ limit
  pub numbers_few : sum_by length (distinct_paths paths) ≤ max_numbers

-- routes are all taken in exactly where their paths and those before fit
abbrev pub FitLaw : Type 0
FitLaw =
    (sets : Sets) (before routes : List Route) (old : Taken)
    → IsTakenOf sets before old → Fit old.table.limit (cleaned_paths sets before)
    → ((new : Taken) × Takes sets old routes new) ↔ Fit old.table.limit (cleaned_paths sets (before ++ routes))
