-- What taking routes in comes to, route by route.
use Rattle.std.proofs.Common.{◌≡◌, ◌∙◌, ◌+◌, ◌-◌, ◌^◌, ◌==◌, ◌++◌, ◌∷◌, [], List, ℕ, min, Bool, true, false, cond, Option, Some, None, Result, Ok, Err, if◌then◌else◌, length, refl, sym, ap, subst}
use Rattle.std.proofs.Common.{arith, append_assoc}
use Rattle.std.specs.Prelude.{is_some, count_by, filter_map}
use Rattle.std.proofs.lemmas.List.{append-nil}
use Rattle.std.proofs.lemmas.List.Elements.{filter_map-append}
use Rattle.std.proofs.lemmas.Grind.{flat_map-append}
use Rattle.std.proofs.lemmas.List.Sums.{sum_by_push}
use Rattle.tor_arena.specs.Growth.{one_more}
use Rattle.path_attrs.specs.Fields.{◌>>=◌}
use Rattle.path_clean.specs.declared.cleaned.Sets.{Sets}
use Rattle.path_clean.specs.declared.cleaned.Cause.{Cause}
use Rattle.path_clean.specs.declared.cleaned.Cause.TheVariants as cause
use Rattle.path_clean.specs.declared.cleaned.Cleaned.{Cleaned}
use Rattle.path_clean.specs.declared.cleaned.Cleaned.TheVariants.{Path, Aside}
use Rattle.path_clean.specs.Clean.{clean_of}
use Rattle.path_clean.specs.Counts.{CauseCounts, no_counts, cause_count, counted_one, place_of_cause}
use Rattle.path_table.specs.Table.{place_of, with_path, counted}
use Rattle.path_table.proofs.CountingLemmas.{counted_push}
use Rattle.dump_read.specs.declared.error.LimitKind.{LimitKind}
use Rattle.dump_read.specs.declared.error.LimitKind.TheVariants.{Paths, Numbers}
use Rattle.dump_read.specs.Routes.{Route}
use Rattle.dump_read.specs.Taking.{Taken, with_one, has_too_many_numbers, take_path, take_cleaned, take_route, take_routes, Takes}
use Rattle.dump_read.specs.Batches.{cleaned}
use Rattle.dump_read.specs.Wanted.{Wanted, file_routes}
use Rattle.dump_read.specs.Reading.{FileEnd, Whole, Broken, TooLong, file_reading}
use Rattle.dump_read.specs.Files.{with_file}
use Rattle.dump_read.specs.Seen.{DumpsEnd, of_end, of_taking, of_file}
use Rattle.dump_read.specs.Laws.{path_in, is_aside, IsTakenOf, IsEmpty, TakingLaw, TakingOnLaw, routes_in_files, IsOneMore, DumpLaw}

pub same_ok : (x y : Taken) → ◌≡◌ {A = Result Taken LimitKind} (Ok x) (Ok y) → x ≡ y
same_ok x y e = cc

-- ---- one route

abbrev pub choose : Bool → Bool → Bool → Taken → Result Taken LimitKind
choose known met many made = if known then Ok made else if met then Err Paths else if many then Err Numbers else Ok made

chosen : (known met many : Bool) (made new : Taken) → choose known met many made ≡ Ok new → made ≡ new
chosen true met many made new e = same_ok made new e
chosen false true many made new e = absurd cc
chosen false false true made new e = absurd cc
chosen false false false made new e = same_ok made new e

-- a path that is taken in is counted
pub path_counted : (old new : Taken) (path : List ℕ) → take_path old path ≡ Ok new → record old { table = with_one old.table path } ≡ new
path_counted old new path e =
    chosen (is_some (place_of old.table.rows path)) (length old.table.rows == old.table.limit) (has_too_many_numbers old.table path)
    (record old { table = with_one old.table path }) new e

abbrev most : ℕ
most = 2 ^ 64 - 1

-- a count, when a route is set aside for the cause of this place
abbrev counted_at : Cause → ℕ → ℕ → ℕ
counted_at found place count = cond (place_of_cause found == place) (one_more count) count

abbrev each_counted : Cause → CauseCounts → CauseCounts
each_counted found counts = record {
  no_path = counted_at found 0 counts.no_path;
  bad_segments = counted_at found 1 counts.bad_segments;
  confed = counted_at found 2 counts.confed;
  sets = counted_at found 3 counts.sets;
  reserved = counted_at found 4 counts.reserved;
  loop = counted_at found 5 counts.loop;
  short = counted_at found 6 counts.short;
}

one_counted : (found : Cause) (counts : CauseCounts) → counted_one found counts ≡ each_counted found counts
one_counted cause.NoPath counts = refl
one_counted cause.BadSegments counts = refl
one_counted cause.Confed counts = refl
one_counted cause.Sets counts = refl
one_counted cause.Reserved counts = refl
one_counted cause.Loop counts = refl
one_counted cause.Short counts = refl

-- the count of a cause, when a route is set aside for it or for another
aside_counted : (asked found : Cause) (counts : CauseCounts) → cause_count asked (counted_one found counts) ≡ counted_at found (place_of_cause asked) (cause_count asked counts)
aside_counted asked found counts = ap (cause_count asked) (one_counted found counts) ∙ by asked
  where
    by : (cause : Cause) → cause_count cause (each_counted found counts) ≡ counted_at found (place_of_cause cause) (cause_count cause counts)
    by cause.NoPath = refl
    by cause.BadSegments = refl
    by cause.Confed = refl
    by cause.Sets = refl
    by cause.Reserved = refl
    by cause.Loop = refl
    by cause.Short = refl

-- what routes were cleaned to, and what is taken in of it
pub record Sums (all : List Cleaned) (taken : Taken) : Type 0 where
  pub rows : taken.table.rows ≡ counted (filter_map path_in all)
  pub asides : (asked : Cause) → cause_count asked taken.counts ≡ min (count_by (is_aside asked) all) most

pub one_route : (all : List Cleaned) (one : Cleaned) (old new : Taken) → Sums all old → take_cleaned old one ≡ Ok new → Sums (all ++ one ∷ []) new
one_route all (Path path) old new so_far e = subst (Sums (all ++ Path path ∷ [])) (path_counted old new path e) (record {
  rows = ap (λ rows. with_path rows path) so_far.rows ∙ sym (counted_push (filter_map path_in all) path)
      ∙ ap counted (sym (filter_map-append path_in all (Path path ∷ [])));
  asides = λ asked.
      let pushed = sum_by_push (λ c. cond (is_aside asked c) 1 0) all (Path path) in
      so_far.asides asked ∙ ap (λ n. min n most) (omega (arith, pushed));
})
one_route all (Aside found) old new so_far e = subst (Sums (all ++ Aside found ∷ [])) (same_ok (record old { counts = counted_one found old.counts }) new e) (record {
  rows = so_far.rows ∙ ap counted (sym (filter_map-append path_in all (Aside found ∷ []) ∙ append-nil (filter_map path_in all)));
  asides = λ asked.
      aside_counted asked found old.counts ∙ ap (counted_at found (place_of_cause asked)) (so_far.asides asked)
      ∙ stops (place_of_cause found == place_of_cause asked) (count_by (is_aside asked) all)
      ∙ ap (λ n. min n most) (sym (sum_by_push (λ c. cond (is_aside asked c) 1 0) all (Aside found)));
})
  where
    stops : (b : Bool) (n : ℕ) → cond b (one_more (min n most)) (min n most) ≡ min (n + cond b 1 0) most
    stops true n = omega arith
    stops false n = omega arith

-- ---- all routes

all_routes : (sets : Sets) (all : List Cleaned) (routes : List Route) (old new : Taken) → Sums all old → Takes sets old routes new → Sums (all ++ cleaned sets routes) new
unfolding take_routes
all_routes sets all [] old new so_far e = subst (Sums (all ++ [])) (same_ok old new e) (subst (λ (t : List Cleaned). Sums t old) (sym (append-nil all)) so_far)
all_routes sets all (route ∷ routes) old new so_far e =
    by (take_route sets old route) refl e (λ further. all_routes sets (all ++ clean_of sets route.width route.attrs ∷ []) routes further new)
  where
    by : (one : Result Taken LimitKind) → take_route sets old route ≡ one → (one >>= λ further. take_routes sets further routes) ≡ Ok new
        → ((further : Taken) → Sums (all ++ clean_of sets route.width route.attrs ∷ []) further → Takes sets further routes new
        → Sums ((all ++ clean_of sets route.width route.attrs ∷ []) ++ cleaned sets routes) new)
        → Sums (all ++ clean_of sets route.width route.attrs ∷ cleaned sets routes) new
    by (Ok further) is e rest =
        subst (λ (t : List Cleaned). Sums t new) (append_assoc all (clean_of sets route.width route.attrs ∷ []) (cleaned sets routes))
        (rest further (one_route all (clean_of sets route.width route.attrs) old further so_far is) e)
    by (Err kind) is e rest = absurd cc

pub cleaned-append : (sets : Sets) (before routes : List Route) → cleaned sets (before ++ routes) ≡ cleaned sets before ++ cleaned sets routes
cleaned-append sets [] routes = refl
cleaned-append sets (route ∷ before) routes = ap (λ (t : List Cleaned). clean_of sets route.width route.attrs ∷ t) (cleaned-append sets before routes)

pub sums : (sets : Sets) (routes : List Route) (taken : Taken) → IsTakenOf sets routes taken → Sums (cleaned sets routes) taken
sums sets routes taken is = record { rows = is.rows; asides = is.asides }

taken_of : (sets : Sets) (routes : List Route) (taken : Taken) → Sums (cleaned sets routes) taken → IsTakenOf sets routes taken
taken_of sets routes taken so_far = record { rows = so_far.rows; asides = so_far.asides }

pub nothing : (sets : Sets) (taken : Taken) → IsEmpty taken → IsTakenOf sets [] taken
nothing sets taken empty = record { rows = empty.rows; asides = λ asked. ap (cause_count asked) empty.counts ∙ none asked }
  where
    none : (asked : Cause) → cause_count asked no_counts ≡ 0
    none cause.NoPath = refl
    none cause.BadSegments = refl
    none cause.Confed = refl
    none cause.Sets = refl
    none cause.Reserved = refl
    none cause.Loop = refl
    none cause.Short = refl

pub further : TakingOnLaw
further sets before routes old new is takes =
    taken_of sets (before ++ routes) new
    (subst (λ (t : List Cleaned). Sums t new) (sym (cleaned-append sets before routes)) (all_routes sets (cleaned sets before) routes old new (sums sets before old is) takes))

pub taking : TakingLaw
taking sets routes old new empty takes = further sets [] routes old new (nothing sets old empty) takes

-- ---- dumps

one_end : (x y : Taken) → ◌≡◌ {A = Result Taken DumpsEnd} (Ok x) (Ok y) → x ≡ y
one_end x y e = cc

files_push : (wanted : Wanted) (files : List (List ℕ)) (octets : List ℕ) → routes_in_files wanted (files ++ octets ∷ []) ≡ routes_in_files wanted files ++ file_routes wanted octets
files_push wanted files octets =
    flat_map-append (file_routes wanted) files (octets ∷ []) ∙ ap (λ (t : List Route). routes_in_files wanted files ++ t) (append-nil (file_routes wanted octets))

one_file : (wanted : Wanted) (dump : ℕ) (before : List (List ℕ)) (octets : List ℕ) (old new : Taken) → IsTakenOf wanted.sets (routes_in_files wanted before) old
    → (taking : Result Taken LimitKind) → take_routes wanted.sets old (file_routes wanted octets) ≡ taking → (end : FileEnd)
    → (of_taking dump taking >>= λ all. of_end dump end (with_file wanted octets all)) ≡ Ok new → IsTakenOf wanted.sets (routes_in_files wanted (before ++ octets ∷ [])) new
one_file wanted dump before octets old new so_far (Err kind) takes end e = absurd cc
one_file wanted dump before octets old new so_far (Ok all) takes (Broken at fault) e = absurd cc
one_file wanted dump before octets old new so_far (Ok all) takes TooLong e = absurd cc
one_file wanted dump before octets old new so_far (Ok all) takes Whole e =
    let more = further wanted.sets (routes_in_files wanted before) (file_routes wanted octets) old all so_far takes in
    subst (IsTakenOf wanted.sets (routes_in_files wanted (before ++ octets ∷ []))) (one_end (with_file wanted octets all) new e)
    (subst (λ (t : List Route). IsTakenOf wanted.sets t (with_file wanted octets all)) (sym (files_push wanted before octets)) (record { rows = more.rows; asides = more.asides }))

next_dump : (wanted : Wanted) (dump : ℕ) (before : List (List ℕ)) (file : Option (List ℕ)) (old new : Taken)
    → IsTakenOf wanted.sets (routes_in_files wanted before) old → of_file wanted dump old file ≡ Ok new → IsOneMore wanted before file new
next_dump wanted dump before None old new so_far e = absurd cc
next_dump wanted dump before (Some octets) old new so_far e = record {
  octets = octets;
  there = refl;
  taken = one_file wanted dump before octets old new so_far (take_routes wanted.sets old (file_routes wanted octets)) refl (file_reading octets).end e;
}

pub dumps : DumpLaw
dumps = record { first = λ wanted. nothing wanted.sets; further = next_dump }
