-- What is taken in, route by route: distinct paths with their times, and counts of the routes that are set aside.
use Rattle.std.specs.Prelude.{◌≡◌, ◌≤◌, ◌+◌, ◌==◌, ◌&&◌, nat_lt, Bool, ℕ, List, [], ◌∷◌, length, take, is_some, Result, Ok, Err}
use Rattle.std.specs.Prelude.{if◌then◌else◌}
use Rattle.path_attrs.specs.Fields.{◌>>=◌}
use Rattle.path_clean.specs.declared.cleaned.Sets.{Sets}
use Rattle.path_clean.specs.declared.cleaned.Cleaned.{Cleaned}
use Rattle.path_clean.specs.declared.cleaned.Cleaned.TheVariants.{Path, Aside}
use Rattle.path_clean.specs.Clean.{clean_of}
use Rattle.path_clean.specs.Counts.{counted_one}
use Rattle.tor_arena.specs.Limits.{max_numbers}
use Rattle.path_table.specs.Rows.{Table, numbers_in}
use Rattle.path_table.specs.Table.{place_of, with_path}
use Rattle.dump_read.specs.declared.error.LimitKind.{LimitKind}
use Rattle.dump_read.specs.declared.error.LimitKind.TheVariants.{Paths, Numbers}
use Rattle.dump_read.specs.Routes.{Route}
pub use Rattle.dump_read.specs.declared.taking.Taken.{Taken}

-- the table with one path more
abbrev pub with_one : Table → List ℕ → Table
with_one table path = record table { rows = with_path table.rows path }

-- fewer distinct paths are there than may be, and with this one they would have too many numbers in sum
abbrev pub has_too_many_numbers : Table → List ℕ → Bool
has_too_many_numbers table path =
    nat_lt (length table.rows) table.limit && nat_lt max_numbers (numbers_in table.rows + length path)

-- a path is counted, unless it is new and a limit is met: of distinct paths, or of their numbers
abbrev pub take_path : Taken → List ℕ → Result Taken LimitKind
take_path taken path =
    if is_some (place_of taken.table.rows path) then Ok (record taken { table = with_one taken.table path })
    else if length taken.table.rows == taken.table.limit then Err Paths
    else if has_too_many_numbers taken.table path then Err Numbers
    else Ok (record taken { table = with_one taken.table path })

abbrev pub take_cleaned : Taken → Cleaned → Result Taken LimitKind
take_cleaned taken (Path path) = take_path taken path
take_cleaned taken (Aside cause) = Ok (record taken { counts = counted_one cause taken.counts })

-- a route is cleaned, and its path is counted or it is set aside
abbrev pub take_route : Sets → Taken → Route → Result Taken LimitKind
take_route sets taken route = take_cleaned taken (clean_of sets route.width route.attrs)

-- the routes in order, up to the first that meets a limit
unfoldable pub take_routes : Sets → Taken → List Route → Result Taken LimitKind
take_routes sets taken [] = Ok taken
take_routes sets taken (route ∷ routes) = take_route sets taken route >>= λ further. take_routes sets further routes

-- all of the routes were taken in
abbrev pub Takes : Sets → Taken → List Route → Taken → Type 0
Takes sets old routes new = take_routes sets old routes ≡ Ok new

-- some of the first were taken in
abbrev pub TakesSome : Sets → Taken → List Route → Taken → Type 0
TakesSome sets old routes new = (n : ℕ) × (n ≤ length routes) × Takes sets old (take n routes) new
