-- Batches of merged routes.
use Rattle.std.proofs.Common.{◌≡◌, ◌∙◌, ◌+◌, ◌<◌, ◌≤◌, ◌++◌, ◌∷◌, [], List, ℕ, zero, suc, Bool, true, false, cond, Option, Some, None, Result, Ok, Err, option_map, bytes_eq, length, drop}
use Rattle.std.proofs.Common.{slice_get, nat_eq, refl, ap, sym, subst, arith}
use Rattle.std.specs.Prelude.{is_some, OnOk}
use Rattle.std.proofs.lemmas.List.{length-append, length-map}
use Rattle.std.proofs.Math.ListN.{drop_of_length-le}
use Rattle.tor_arena.specs.Growth.{one_more}
use Rattle.path_clean.specs.declared.cleaned.Sets.{Sets}
use Rattle.path_clean.specs.declared.cleaned.Cause.{Cause}
use Rattle.path_clean.specs.declared.cleaned.Cleaned.{Cleaned}
use Rattle.path_clean.specs.declared.cleaned.Cleaned.TheVariants.{Path, Aside}
use Rattle.path_clean.specs.Clean.{cleaned_as, merged_of, judge_merged}
use Rattle.path_table.specs.Lookups.{StandWhereFound, AreCleanWhereFound}
use Rattle.path_table.specs.Rows.{Counted, Table}
use Rattle.path_table.specs.Table.{place_of, with_path}
use Rattle.path_clean.proofs.Judged as judged
use Rattle.dump_read.specs.declared.error.LimitKind.{LimitKind}
use Rattle.dump_read.specs.declared.error.LimitKind.TheVariants.{Paths, Numbers}
use Rattle.dump_read.specs.Routes.{Route}
use Rattle.dump_read.specs.declared.taking.Untaken.{Untaken}
use Rattle.dump_read.specs.Batches.{StandAtPlaces, AreOf, Batched, merged, merged_by, IsBatch, IsLimitAt, TakesAt}
use Rattle.dump_read.specs.Refusals.{IsLimit}
use Rattle.dump_read.specs.Taking.{Taken, take_cleaned, take_path, take_routes, Takes, with_one, has_too_many_numbers}
use Rattle.dump_read.proofs.Takings.{SoFar, one_more as one_route_more, limit_at, all_taken}

-- ---- what stands at a place

pub length-merged_by : (causes : List (Option Cause)) (paths : List (List ℕ)) → length causes ≡ length paths → length (merged_by causes paths) ≡ length causes
length-merged_by [] paths same = refl
length-merged_by (cause ∷ causes) [] same = absurd (omega (arith, same))
length-merged_by (cause ∷ causes) (path ∷ paths) same = ap suc (length-merged_by causes paths (omega (arith, same)))

pub merged-at : (causes : List (Option Cause)) (paths : List (List ℕ)) (k : ℕ) (cause : Option Cause) (path : List ℕ) → slice_get causes k ≡ Some cause → slice_get paths k ≡ Some path
    → slice_get (merged_by causes paths) k ≡ Some (cleaned_as cause path)
merged-at [] paths k cause path c p = absurd cc
merged-at (x ∷ causes) [] k cause path c p = absurd cc
merged-at (x ∷ causes) (y ∷ paths) zero cause path c p = cc
merged-at (x ∷ causes) (y ∷ paths) (suc k) cause path c p = merged-at causes paths k cause path c p

-- the path of a route that is set aside is any
pub aside-at : (causes : List (Option Cause)) (paths : List (List ℕ)) (k : ℕ) (cause : Cause) → length causes ≡ length paths → slice_get causes k ≡ Some (Some cause)
    → slice_get (merged_by causes paths) k ≡ Some (Aside cause)
aside-at [] paths k cause same c = absurd cc
aside-at (x ∷ causes) [] k cause same c = absurd (omega (arith, same))
aside-at (x ∷ causes) (y ∷ paths) zero cause same c = ap (λ (o : Option (Option Cause)). Some (of o)) c
  where
    of : Option (Option Cause) → Cleaned
    of None = Path y
    of (Some o) = cleaned_as o y
aside-at (x ∷ causes) (y ∷ paths) (suc k) cause same c = aside-at causes paths k cause (omega (arith, same)) c

-- a route that has no cause has its path
pub path-at : (causes : List (Option Cause)) (paths : List (List ℕ)) (k : ℕ) → length causes ≡ length paths → slice_get causes k ≡ Some None
    → (path : List ℕ) × (slice_get (merged_by causes paths) k ≡ Some (Path path))
path-at [] paths k same c = absurd cc
path-at (x ∷ causes) [] k same c = absurd (omega (arith, same))
path-at (x ∷ causes) (y ∷ paths) zero same c = (y, ap (λ (o : Option (Option Cause)). Some (of o)) c)
  where
    of : Option (Option Cause) → Cleaned
    of None = Path y
    of (Some o) = cleaned_as o y
path-at (x ∷ causes) (y ∷ paths) (suc k) same c = path-at causes paths k (omega (arith, same)) c

pub within-causes : (causes : List (Option Cause)) (paths : List (List ℕ)) (batch : Batched) (places : List (Option ℕ)) (k : ℕ) → length causes ≡ length paths
    → record { routes = merged_by causes paths; places = places } ≡ batch → k < length batch.routes → k < length causes
within-causes causes paths batch places k same is lt =
    let many = length-merged_by causes paths same in
    let seen = ap (λ (b : Batched). length b.routes) is in omega (arith, many, seen, lt)

pub one-route : (routes : List Cleaned) (k : ℕ) (x y : Cleaned) → slice_get routes k ≡ Some x → slice_get routes k ≡ Some y → x ≡ y
one-route routes k x y a b = inside (sym a ∙ b)
  where
    inside : ◌≡◌ {A = Option Cleaned} (Some x) (Some y) → x ≡ y
    inside e = cc

-- ---- one route more

pub merged_by-push : (causes : List (Option Cause)) (paths : List (List ℕ)) (cause : Option Cause) (path : List ℕ) → length causes ≡ length paths
    → merged_by (causes ++ cause ∷ []) (paths ++ path ∷ []) ≡ merged_by causes paths ++ cleaned_as cause path ∷ []
merged_by-push [] [] cause path same = refl
merged_by-push [] (y ∷ paths) cause path same = absurd (omega (arith, same))
merged_by-push (x ∷ causes) [] cause path same = absurd (omega (arith, same))
merged_by-push (x ∷ causes) (y ∷ paths) cause path same = ap (λ (cs : List Cleaned). cleaned_as x y ∷ cs) (merged_by-push causes paths cause path (omega (arith, same)))

pub IsBatch-push : (causes : List (Option Cause)) (paths : List (List ℕ)) (cause : Option Cause) (path : List ℕ) → IsBatch causes paths
    → IsBatch (causes ++ cause ∷ []) (paths ++ path ∷ [])
IsBatch-push causes paths cause path batch =
    let same = batch.same in
    let many = length-append causes (cause ∷ []) in
    let more = length-append paths (path ∷ []) in record { same = omega (arith, same, many, more) }

-- ---- paths that were found

found-stays : (rows : List Counted) (path other : List ℕ) (k : ℕ) → place_of rows path ≡ Some k → place_of (with_path rows other) path ≡ Some k
found-stays [] path other k is = absurd cc
found-stays (row ∷ others) path other k is = by (bytes_eq row.path other) (λ j. found-stays others path other j)
  where
    behind : (b : Bool) (o : Option ℕ) (k : ℕ) → cond b (Some 0) (option_map suc o) ≡ Some k → ((j : ℕ) → o ≡ Some j → place_of (with_path others other) path ≡ Some j)
        → cond b (Some 0) (option_map suc (place_of (with_path others other) path)) ≡ Some k
    behind true o k is ih = is
    behind false None k is ih = absurd cc
    behind false (Some j) k is ih = ap (option_map suc) (ih j refl) ∙ is

    by : (b : Bool) → ((j : ℕ) → place_of others path ≡ Some j → place_of (with_path others other) path ≡ Some j)
        → place_of (cond b (record { path = row.path; times = one_more row.times } ∷ others) (row ∷ with_path others other)) path ≡ Some k
    by true ih = is
    by false ih = behind (bytes_eq row.path path) (place_of others path) k is ih

-- taking in a path leaves every path where it stands
stays-in : (taken new : Taken) (path : List ℕ) → take_path taken path ≡ Ok new → (p : List ℕ) (k : ℕ) → place_of taken.table.rows p ≡ Some k → place_of new.table.rows p ≡ Some k
stays-in taken new path is p k at =
    by (is_some (place_of taken.table.rows path)) (nat_eq (length taken.table.rows) taken.table.limit) (has_too_many_numbers taken.table path) is
  where
    grown : Taken
    grown = record taken { table = with_one taken.table path }

    stays : ◌≡◌ {A = Result Taken LimitKind} (Ok grown) (Ok new) → place_of new.table.rows p ≡ Some k
    stays is = let same : grown ≡ new = cc in ap (λ (t : Taken). place_of t.table.rows p) (sym same) ∙ found-stays taken.table.rows p path k at

    by : (there full many : Bool) → cond there (Ok grown) (cond full (Err Paths) (cond many (Err Numbers) (Ok grown))) ≡ Ok new → place_of new.table.rows p ≡ Some k
    by true full many is = stays is
    by false true many is = absurd cc
    by false false true is = absurd cc
    by false false false is = stays is

AreFound-taken : (batch : Batched) (old new : Taken) (route : Cleaned) → StandAtPlaces old.table.rows batch → take_cleaned old route ≡ Ok new → StandAtPlaces new.table.rows batch
AreFound-taken batch old new (Path path) found is = λ k id p at route.
    let there = found k id p at route in record { place = stays-in old new path is p id there.place; clean = there.clean }
AreFound-taken batch old new (Aside cause) found is =
    let same : old.table ≡ new.table = ap table_of is in
    λ k id p at route.
    let there = found k id p at route in record { place = ap (λ (t : Table). place_of t.rows p) (sym same) ∙ there.place; clean = there.clean }
  where
    table_of : Result Taken LimitKind → Table
    table_of (Ok t) = t.table
    table_of (Err kind) = old.table

-- some route stands there
stands-at : (routes : List Cleaned) (k : ℕ) → k < length routes → (route : Cleaned) × (slice_get routes k ≡ Some route)
stands-at [] k lt = absurd (omega (arith, lt))
stands-at (route ∷ routes) zero lt = (route, refl)
stands-at (route ∷ routes) (suc k) lt = stands-at routes k (omega (arith, lt))

pub AreFound-at : (batch : Batched) (k : ℕ) (old new : Taken) → k < length batch.routes → StandAtPlaces old.table.rows batch → TakesAt batch k old new → StandAtPlaces new.table.rows batch
AreFound-at batch k old new lt found takes = let route = stands-at batch.routes k lt in AreFound-taken batch old new (judge_merged route.0) found (takes route.0 route.1)

pub AreFound-each : (rows : List Counted) (causes : List (Option Cause)) (paths : List (List ℕ)) (places : List (Option ℕ)) → StandWhereFound rows paths places
    → AreCleanWhereFound paths places → StandAtPlaces rows (record { routes = merged_by causes paths; places = places })
AreFound-each rows causes paths places right clean = λ k id path at route.
    let here = its_path causes paths k path route in record { place = right k id path at here; clean = clean k id path at here }
  where
    its_path : (causes : List (Option Cause)) (paths : List (List ℕ)) (k : ℕ) (path : List ℕ) → slice_get (merged_by causes paths) k ≡ Some (Path path) → slice_get paths k ≡ Some path
    its_path [] paths k path route = absurd cc
    its_path (x ∷ causes) [] k path route = absurd cc
    its_path (None ∷ causes) (y ∷ paths) zero path route = cc
    its_path (Some cause ∷ causes) (y ∷ paths) zero path route = absurd cc
    its_path (x ∷ causes) (y ∷ paths) (suc k) path route = its_path causes paths k path route

pub on_both : {A E P Q R : Type 0} (r : Result A E) → OnOk r P → OnOk r Q → (P → Q → R) → OnOk r R
on_both (Ok x) p q f = f p q
on_both (Err e) p q f = tt

-- ---- one route after the other

record Head (sets : Sets) (routes : List Route) (k : ℕ) : Type 0 where
  pub route : Route
  pub parts : drop k routes ≡ route ∷ drop (suc k) routes
  pub at : slice_get (merged sets routes) k ≡ Some (merged_of sets route.width route.attrs)

head-at : (sets : Sets) (routes : List Route) (k : ℕ) → k < length routes → Head sets routes k
head-at sets [] k lt = absurd (omega (arith, lt))
head-at sets (route ∷ routes) zero lt = record { route = route; parts = refl; at = refl }
head-at sets (route ∷ routes) (suc k) lt = let h = head-at sets routes k (omega (arith, lt)) in record { route = h.route; parts = h.parts; at = h.at }

head-of : (sets : Sets) (routes : List Route) (batch : Batched) (k : ℕ) → AreOf sets routes batch → k < length batch.routes → Head sets routes k
head-of sets routes batch k is lt =
    let many = ap length is ∙ length-map routes (λ (route : Route). merged_of sets route.width route.attrs) in head-at sets routes k (omega (arith, many, lt))

pub batch-step : (sets : Sets) (routes : List Route) (batch : Batched) (k : ℕ) (old mid new : Taken) → AreOf sets routes batch → k < length batch.routes → SoFar sets old mid routes (drop k routes)
    → TakesAt batch k mid new → SoFar sets old new routes (drop (k + 1) routes)
batch-step sets routes batch k old mid new is lt so_far takes =
    let h = head-of sets routes batch k is lt in
    let next : suc k ≡ k + 1 = omega arith in
    subst (λ j. SoFar sets old new routes (drop j routes)) next
    (one_route_more sets old mid new routes (drop (suc k) routes) h.route (subst (SoFar sets old mid routes) h.parts so_far)
    (ap (take_cleaned mid) (judged.judged_last sets h.route.width h.route.attrs)
    ∙ takes (merged_of sets h.route.width h.route.attrs) (ap (λ cs. slice_get cs k) is ∙ h.at)))

pub batch-limit : (sets : Sets) (routes : List Route) (batch : Batched) (k : ℕ) (old mid : Taken) (why : Untaken) → AreOf sets routes batch → k < length batch.routes
    → SoFar sets old mid routes (drop k routes) → IsLimitAt batch k mid why → IsLimit (take_routes sets old routes) why
batch-limit sets routes batch k old mid why is lt so_far limit =
    let h = head-of sets routes batch k is lt in
    limit_at sets old mid routes (drop (suc k) routes) h.route why (subst (SoFar sets old mid routes) h.parts so_far)
    (subst (λ c. IsLimit (take_cleaned mid c) why) (sym (judged.judged_last sets h.route.width h.route.attrs))
    (limit (merged_of sets h.route.width h.route.attrs) (ap (λ cs. slice_get cs k) is ∙ h.at)))

pub batch-all : (sets : Sets) (routes : List Route) (batch : Batched) (k : ℕ) (old new : Taken) → AreOf sets routes batch → length batch.routes ≤ k → SoFar sets old new routes (drop k routes)
    → Takes sets old routes new
batch-all sets routes batch k old new is le so_far =
    let many = ap length is ∙ length-map routes (λ (route : Route). merged_of sets route.width route.attrs) in
    all_taken sets old new routes (drop k routes) so_far (drop_of_length-le routes {i = k} (omega (arith, many, le)))
