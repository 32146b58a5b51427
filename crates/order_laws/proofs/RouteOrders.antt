-- Routes in whatever order give the same.
use Rattle.std.proofs.Common.{◌≡◌, ℕ, ◌+◌, ◌≤◌, Bool, false, cond, List, [], ◌∷◌, length, map, count_by, sum_by, filter_map, bytes_eq, Result, Ok, Err, IsPermutation}
use Rattle.std.proofs.Common.{◌↔◌, ◌-◌, ◌^◌, min, refl, sym, ap, subst, ◌∙◌, arith}
use Rattle.std.proofs.lemmas.List.{map-append}
use Rattle.std.proofs.lemmas.List.Sums.{sum_by-cons}
use Rattle.std.proofs.lemmas.List.Sorted.{IsPermutation-refl, IsPermutation-sym, IsPermutation-trans, IsPermutation-map, length_permutation, sum_by-IsPermutation}
use Rattle.tor_arena.specs.Limits.{max_numbers}
use Rattle.tor_arena.proofs.Counting.{one, count-cons, count-append}
use Rattle.path_clean.specs.declared.cleaned.Sets.{Sets}
use Rattle.path_clean.specs.declared.cleaned.Cause.{Cause}
use Rattle.path_clean.specs.declared.cleaned.Cause.TheVariants as cause
use Rattle.path_clean.specs.declared.cleaned.Cleaned.{Cleaned}
use Rattle.path_clean.specs.declared.cleaned.Cleaned.TheVariants.{Path, Aside}
use Rattle.path_clean.specs.Clean.{clean_of}
use Rattle.path_clean.specs.Counts.{CauseCounts, cause_count}
use Rattle.path_table.specs.Rows.{Counted, row_paths}
use Rattle.path_table.specs.Table.{distinct_paths, times, counted}
use Rattle.path_order.specs.Laws.{StandAsOften}
use Rattle.path_order.proofs.RiseLemmas.{Few, few_moved, moved_rows, same_order}
use Rattle.path_order.proofs.CountedLemmas.{counted_few, counted_moved}
use Rattle.dump_read.specs.declared.error.LimitKind.{LimitKind}
use Rattle.dump_read.specs.Routes.{Route}
use Rattle.dump_read.specs.declared.wanted.Wanted.{Wanted}
use Rattle.dump_read.specs.Wanted.{file_routes}
use Rattle.dump_read.specs.Batches.{cleaned}
use Rattle.dump_read.specs.declared.taking.Taken.{Taken}
use Rattle.dump_read.specs.Taking.{take_routes, Takes}
use Rattle.dump_read.specs.Laws.{path_in, is_aside, cleaned_paths, routes_in_files, IsTakenOf, IsEmpty, Fit}
use Rattle.dump_read.proofs.TakingLemmas as takings
use Rattle.dump_read.proofs.FitLemmas as fits
use Rattle.order_laws.specs.RouteOrder.{GiveSame, IsTakenInAnyOrder, AreSameInShort, MovedRoutesLaw, OneOrderOfRoutesLaw, FitTogetherLaw, TakenTogetherLaw}
use Rattle.order_laws.proofs.AnyTakings.{taken_on}

-- ---- routes that are moved

abbrev is_path : List ℕ → Cleaned → Bool
is_path path (Path other) = bytes_eq other path
is_path path (Aside cause) = false

counts_path : (path : List ℕ) (all : List Cleaned) → count_by (λ other. bytes_eq other path) (filter_map path_in all) ≡ count_by (is_path path) all
counts_path path [] = refl
counts_path path (Path other ∷ all) =
    count-cons (λ p. bytes_eq p path) other (filter_map path_in all) ∙ ap (λ n. one (bytes_eq other path) + n) (counts_path path all) ∙ sym (count-cons (is_path path) (Path other) all)
counts_path path (Aside cause ∷ all) =
    let rest = counts_path path all in
    let more : count_by (is_path path) (Aside cause ∷ all) ≡ 0 + count_by (is_path path) all = count-cons (is_path path) (Aside cause) all in
    omega (arith, rest, more)

-- as many of the one are cleaned so as of the other, whatever is asked
record AreCleanedAlike (sets : Sets) (routes others : List Route) : Type 0 where
  alike : (asked : Cleaned → Bool) → count_by asked (cleaned sets routes) ≡ count_by asked (cleaned sets others)

gives : (sets : Sets) (routes others : List Route) → AreCleanedAlike sets routes others → GiveSame sets routes others
gives sets routes others are = record {
  paths = λ path. counts_path path (cleaned sets routes) ∙ are.alike (is_path path) ∙ sym (counts_path path (cleaned sets others));
  asides = λ cause. are.alike (is_aside cause);
}

abbrev clean : Sets → Route → Cleaned
clean sets route = clean_of sets route.width route.attrs

moved_routes : (sets : Sets) (routes others : List Route) → IsPermutation routes others → AreCleanedAlike sets routes others
moved_routes sets routes others moved = record {
  alike = λ asked. sym (sum_by-IsPermutation (λ c. cond (asked c) 1 0) (cleaned sets routes) (cleaned sets others) (IsPermutation-map (clean sets) routes others moved));
}

abbrev count_on : Wanted → (Cleaned → Bool) → List ℕ → ℕ
count_on wanted asked octets = count_by asked (cleaned wanted.sets (file_routes wanted octets))

over_dumps : (wanted : Wanted) (asked : Cleaned → Bool) (dumps : List (List ℕ))
    → count_by asked (cleaned wanted.sets (routes_in_files wanted dumps)) ≡ sum_by (count_on wanted asked) dumps
over_dumps wanted asked [] = refl
over_dumps wanted asked (octets ∷ dumps) =
    ap (count_by asked) (map-append (clean wanted.sets) (file_routes wanted octets) (routes_in_files wanted dumps)) ∙
    count-append asked (cleaned wanted.sets (file_routes wanted octets)) (cleaned wanted.sets (routes_in_files wanted dumps)) ∙
    ap (λ n. count_on wanted asked octets + n) (over_dumps wanted asked dumps) ∙ sym (sum_by-cons (count_on wanted asked) octets dumps)

moved_dumps : (wanted : Wanted) (dumps others : List (List ℕ)) → IsPermutation dumps others
    → AreCleanedAlike wanted.sets (routes_in_files wanted dumps) (routes_in_files wanted others)
moved_dumps wanted dumps others moved = record {
  alike = λ asked.
      over_dumps wanted asked dumps ∙ sym (sum_by-IsPermutation (count_on wanted asked) dumps others moved) ∙ sym (over_dumps wanted asked others);
}

pub moved_law : MovedRoutesLaw
moved_law = record {
  routes = λ sets routes others moved. gives sets routes others (moved_routes sets routes others moved);
  dumps = λ wanted dumps others moved.
      gives wanted.sets (routes_in_files wanted dumps) (routes_in_files wanted others) (moved_dumps wanted dumps others moved);
}

-- ---- what is taken in

abbrev counts_of : (a b c d e f g : ℕ) → CauseCounts
counts_of a b c d e f g = record { no_path = a; bad_segments = b; confed = c; sets = d; reserved = e; loop = f; short = g }

same_counts : (x y : CauseCounts) → ((why : Cause) → cause_count why x ≡ cause_count why y) → x ≡ y
same_counts x y each =
    ap (λ n. counts_of n x.bad_segments x.confed x.sets x.reserved x.loop x.short) (each cause.NoPath) ∙
    ap (λ n. counts_of y.no_path n x.confed x.sets x.reserved x.loop x.short) (each cause.BadSegments) ∙
    ap (λ n. counts_of y.no_path y.bad_segments n x.sets x.reserved x.loop x.short) (each cause.Confed) ∙
    ap (λ n. counts_of y.no_path y.bad_segments y.confed n x.reserved x.loop x.short) (each cause.Sets) ∙
    ap (λ n. counts_of y.no_path y.bad_segments y.confed y.sets n x.loop x.short) (each cause.Reserved) ∙
    ap (λ n. counts_of y.no_path y.bad_segments y.confed y.sets y.reserved n x.short) (each cause.Loop) ∙
    ap (λ n. counts_of y.no_path y.bad_segments y.confed y.sets y.reserved y.loop n) (each cause.Short)

of_routes : (sets : Sets) (routes : List Route) (taken : Taken) → IsTakenOf sets routes taken → IsTakenInAnyOrder sets routes taken
of_routes sets routes taken is = record {
  rows = subst (λ (t : List Counted). IsPermutation t (counted (cleaned_paths sets routes))) (sym is.rows) (IsPermutation-refl (counted (cleaned_paths sets routes)));
  asides = is.asides;
}

-- the same rows in another order
rows_moved : (sets : Sets) (routes others : List Route) (taken other : Taken) → GiveSame sets routes others → IsTakenInAnyOrder sets routes taken → IsTakenInAnyOrder sets others other
    → IsPermutation taken.table.rows other.table.rows
rows_moved sets routes others taken other same is is' =
    let a : List Counted = counted (cleaned_paths sets routes) in
    let b : List Counted = counted (cleaned_paths sets others) in
    IsPermutation-trans taken.table.rows a other.table.rows is.rows
    (IsPermutation-trans a b other.table.rows (counted_moved (cleaned_paths sets routes) (cleaned_paths sets others) same.paths) (IsPermutation-sym other.table.rows b is'.rows))

few_rows : (sets : Sets) (routes : List Route) (taken : Taken) → IsTakenInAnyOrder sets routes taken → Few taken.table.rows
few_rows sets routes taken is =
    let a : List Counted = counted (cleaned_paths sets routes) in
    few_moved a taken.table.rows (IsPermutation-sym taken.table.rows a is.rows) (counted_few (cleaned_paths sets routes))

same_routes : (sets : Sets) (routes others : List Route) (taken other : Taken) → GiveSame sets routes others → IsTakenInAnyOrder sets routes taken
    → IsTakenInAnyOrder sets others other → AreSameInShort taken other
same_routes sets routes others taken other same is is' =
    let moved = rows_moved sets routes others taken other same is is' in record {
      rows = moved;
      order = same_order taken.table.rows other.table.rows (few_rows sets routes taken is) (few_rows sets others other is') (moved_rows taken.table.rows other.table.rows moved);
      counts = same_counts taken.counts other.counts (λ why. is.asides why ∙ ap (λ n. min n (2 ^ 64 - 1)) (same.asides why) ∙ sym (is'.asides why));
    }

pub one_order_law : OneOrderOfRoutesLaw
one_order_law = record { of_routes = of_routes; further = taken_on; same = same_routes }

-- ---- limits

paths_of_counted : (of : List ℕ → ℕ) (paths : List (List ℕ)) → row_paths (map (λ path. record { path = path; times = of path }) paths) ≡ paths
paths_of_counted of [] = refl
paths_of_counted of (path ∷ paths) = ap (λ (ps : List (List ℕ)). path ∷ ps) (paths_of_counted of paths)

distinct_moved : (a b : List (List ℕ)) → StandAsOften a b → IsPermutation (distinct_paths a) (distinct_paths b)
distinct_moved a b often =
    subst (λ ps. IsPermutation ps (distinct_paths b)) (paths_of_counted (times a) (distinct_paths a))
    (subst (λ ps. IsPermutation (row_paths (counted a)) ps) (paths_of_counted (times b) (distinct_paths b))
    (IsPermutation-map (λ (row : Counted). row.path) (counted a) (counted b) (counted_moved a b often)))

fits_too : (limit : ℕ) (a b : List (List ℕ)) → IsPermutation (distinct_paths a) (distinct_paths b) → Fit limit a → Fit limit b
fits_too limit a b moved fit = record {
  paths_few = subst (λ n. n ≤ limit) (sym (length_permutation (distinct_paths a) (distinct_paths b) moved)) fit.paths_few;
  numbers_few = subst (λ n. n ≤ max_numbers) (sym (sum_by-IsPermutation length (distinct_paths a) (distinct_paths b) moved)) fit.numbers_few;
}

pub fit_law : FitTogetherLaw
fit_law sets limit routes others same =
    let a : List (List ℕ) = cleaned_paths sets routes in
    let b : List (List ℕ) = cleaned_paths sets others in (
      fits_too limit a b (distinct_moved a b same.paths),
      fits_too limit b a (distinct_moved b a (λ path. sym (same.paths path))),
    )

all_fit : (sets : Sets) (routes : List Route) (old : Taken) → IsEmpty old → ((new : Taken) × Takes sets old routes new) ↔ Fit old.table.limit (cleaned_paths sets routes)
all_fit sets routes old none =
    fits.fitting sets [] routes old (takings.nothing sets old none) (record { paths_few = omega arith; numbers_few = omega arith })

pub taken_law : TakenTogetherLaw
taken_law sets routes others old old' kind same none none' limits refused = by (take_routes sets old' others) refl
  where
    by : (r : Result Taken LimitKind) → take_routes sets old' others ≡ r → (other : LimitKind) × (take_routes sets old' others ≡ Err other)
    by (Err other) is = (other, is)
    by (Ok new) is =
        let fit : Fit old'.table.limit (cleaned_paths sets others) = (all_fit sets others old' none').0 (new, is) in
        let fit' : Fit old.table.limit (cleaned_paths sets routes) =
        (fit_law sets old.table.limit routes others same).1 (subst (λ n. Fit n (cleaned_paths sets others)) limits fit) in
        let taken = (all_fit sets routes old none).1 fit' in
        absurd (ok_err taken.0 (sym taken.1 ∙ refused))
      where
        ok_err : (new : Taken) → ◌≡◌ {A = Result Taken LimitKind} (Ok new) (Err kind) → ⊥
        ok_err new e = cc
