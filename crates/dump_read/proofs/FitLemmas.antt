-- Routes are all taken in exactly where their distinct paths fit.
use Rattle.std.proofs.Common.{◌≡◌, ◌∙◌, ◌+◌, ◌≤◌, ◌<◌, ◌==◌, ◌&&◌, inl, inr, ◌++◌, ◌∷◌, [], List, ℕ, suc, Bool, true, false, cond, Option, Some, None, option_map, Result, Ok, Err, length, bytes_eq}
use Rattle.std.proofs.Common.{refl, sym, ap, subst, arith, append_assoc}
use Rattle.std.specs.Prelude.{is_some, nat_lt, filter_map}
use Rattle.std.proofs.lemmas.Bool.{and_parts, eqb-true, ltb-true, both_ways, lt-ltb, cases_order, eq-eqb}
use Rattle.std.proofs.lemmas.List.{append-nil}
use Rattle.std.proofs.lemmas.List.Elements.{filter_map-append}
use Rattle.std.proofs.lemmas.List.Sums.{sum_by-cons}
use Rattle.tor_arena.specs.Growth.{one_more}
use Rattle.path_attrs.specs.Fields.{◌>>=◌}
use Rattle.path_clean.specs.declared.cleaned.Sets.{Sets}
use Rattle.path_clean.specs.declared.cleaned.Cleaned.{Cleaned}
use Rattle.path_clean.specs.declared.cleaned.Cleaned.TheVariants.{Path, Aside}
use Rattle.path_clean.specs.Clean.{clean_of}
use Rattle.path_clean.specs.Counts.{counted_one}
use Rattle.tor_arena.specs.Limits.{max_numbers}
use Rattle.path_table.specs.Rows.{Counted, numbers_in}
use Rattle.path_table.specs.Table.{place_of, with_path, distinct_paths, counted, times}
use Rattle.path_table.proofs.CountingLemmas.{counted_push}
use Rattle.dump_read.specs.declared.error.LimitKind.{LimitKind}
use Rattle.dump_read.specs.declared.error.LimitKind.TheVariants.{Paths, Numbers, Bytes}
use Rattle.dump_read.specs.Routes.{Route}
use Rattle.dump_read.specs.Taking.{Taken, with_one, has_too_many_numbers, take_path, take_cleaned, take_route, take_routes, Takes}
use Rattle.dump_read.specs.Batches.{cleaned}
use Rattle.dump_read.specs.Laws.{path_in, cleaned_paths, Fit, FitLaw}
use Rattle.dump_read.proofs.TakingLemmas.{further, path_counted, same_ok, choose, Sums, sums, one_route, cleaned-append}
use Rattle.dump_read.proofs.LimitLemmas.{length_rows, numbers_rows, same_limit, refuses, Refuses}

-- the same of rows
record FitRows (limit : ℕ) (rows : List Counted) : Type 0 where
  few : length rows ≤ limit
  short : numbers_in rows ≤ max_numbers

of_rows : (limit : ℕ) (paths : List (List ℕ)) → FitRows limit (counted paths) → Fit limit paths
of_rows limit paths fit = record {
  paths_few = subst (λ n. n ≤ limit) (length_rows (times paths) (distinct_paths paths)) fit.few;
  numbers_few = subst (λ n. n ≤ max_numbers) (numbers_rows (times paths) (distinct_paths paths)) fit.short;
}

to_rows : (limit : ℕ) (paths : List (List ℕ)) → Fit limit paths → FitRows limit (counted paths)
to_rows limit paths fit = record {
  few = subst (λ n. n ≤ limit) (sym (length_rows (times paths) (distinct_paths paths))) fit.paths_few;
  short = subst (λ n. n ≤ max_numbers) (sym (numbers_rows (times paths) (distinct_paths paths))) fit.numbers_few;
}

-- ---- one path more

-- how the rows grow by a path that is known or new
record Grow (known : Bool) (rows : List Counted) (path : List ℕ) : Type 0 where
  many : length (with_path rows path) ≡ length rows + cond known 0 1
  numbers : numbers_in (with_path rows path) ≡ numbers_in rows + cond known 0 (length path)

numbers-cons : (row : Counted) (rows : List Counted) → numbers_in (row ∷ rows) ≡ length row.path + numbers_in rows
numbers-cons row rows = sum_by-cons (λ (r : Counted). length r.path) row rows

grow : (rows : List Counted) (path : List ℕ) (known : Bool) → is_some (place_of rows path) ≡ known → Grow known rows path
grow [] path known e = subst (λ b. Grow b [] path) e (record { many = refl; numbers = omega arith })
grow (row ∷ rows) path known e = by (bytes_eq row.path path) refl e (grow rows path)
  where
    by : (b : Bool) → bytes_eq row.path path ≡ b → is_some (cond b (Some 0) (option_map suc (place_of rows path))) ≡ known
        → ((c : Bool) → is_some (place_of rows path) ≡ c → Grow c rows path) → Grow known (row ∷ rows) path
    by true is e ih = subst (λ b. Grow b (row ∷ rows) path) e (record {
      many = rw is (omega arith);
      numbers = rw is (numbers-cons (record { path = row.path; times = one_more row.times }) rows ∙ sym (numbers-cons row rows) ∙ omega arith);
    })
    by false is e ih =
        let more = ih known (inner (place_of rows path) e) in
        let many = more.many in
        let numbers = more.numbers in
        record {
          many = rw is (omega (arith, many));
          numbers = rw is (numbers-cons row (with_path rows path) ∙ omega (arith, numbers, numbers-cons row rows));
        }
      where
        inner : (place : Option ℕ) → is_some (option_map suc place) ≡ known → is_some place ≡ known
        inner None h = h
        inner (Some n) h = h

shrink : (limit : ℕ) (rows : List Counted) (path : List ℕ) → FitRows limit (with_path rows path) → FitRows limit rows
shrink limit rows path fit =
    let more = grow rows path (is_some (place_of rows path)) refl in
    let many = more.many in
    let numbers = more.numbers in
    let few = fit.few in
    let short = fit.short in
    record { few = omega (arith, many, few); short = omega (arith, numbers, short) }

-- where paths fit, the first of them fit
fewer : (limit : ℕ) (first more : List (List ℕ)) → FitRows limit (counted (first ++ more)) → FitRows limit (counted first)
fewer limit first [] fit = subst (λ (t : List (List ℕ)). FitRows limit (counted t)) (append-nil first) fit
fewer limit first (path ∷ more) fit =
    shrink limit (counted first) path
    (subst (FitRows limit) (counted_push first path)
    (fewer limit (first ++ path ∷ []) more (subst (λ (t : List (List ℕ)). FitRows limit (counted t)) (sym (append_assoc first (path ∷ []) more)) fit)))

-- ---- what is taken in fits

not_many : (few many : Bool) → (few && many) ≡ false → few ≡ true → many ≡ false
not_many true many e f = e
not_many false many e f = absurd cc

still_fit : (limit : ℕ) (old new : Taken) (path : List ℕ) → old.table.limit ≡ limit → FitRows limit old.table.rows → take_path old path ≡ Ok new → FitRows limit (with_path old.table.rows path)
still_fit limit old new path same fit e =
    by (is_some (place_of old.table.rows path)) refl (length old.table.rows == old.table.limit) refl (has_too_many_numbers old.table path) refl e
  where
    made : Taken
    made = record old { table = with_one old.table path }

    by : (known : Bool) → is_some (place_of old.table.rows path) ≡ known → (met : Bool) → (length old.table.rows == old.table.limit) ≡ met
        → (many : Bool) → has_too_many_numbers old.table path ≡ many → choose known met many made ≡ Ok new → FitRows limit (with_path old.table.rows path)
    by true k met m many n e =
        let more = grow old.table.rows path true k in
        let length' = more.many in
        let numbers = more.numbers in
        let few = fit.few in
        let short = fit.short in
        record { few = omega (arith, length', few); short = omega (arith, numbers, short) }
    by false k true m many n e = absurd cc
    by false k false m true n e = absurd cc
    by false k false m false n e =
        let more = grow old.table.rows path false k in
        let length' = more.many in
        let numbers = more.numbers in
        let few = fit.few in
        let below : length old.table.rows < old.table.limit = elim (cases_order (length old.table.rows) old.table.limit) [
          | inl is ↦ absurd (both_ways (length old.table.rows == old.table.limit) m (eq-eqb (length old.table.rows) old.table.limit is))
          | inr o ↦ elim o [ inl lt ↦ lt | inr gt ↦ absurd (omega (arith, gt, same, few)) ]
        ] in
        let short : numbers_in old.table.rows + length path ≤ max_numbers = elim (cases_order max_numbers (numbers_in old.table.rows + length path)) [
          | inl is ↦ omega (arith, is)
          | inr o ↦ elim o [
            | inl lt ↦ absurd (both_ways (nat_lt max_numbers (numbers_in old.table.rows + length path))
                (not_many (nat_lt (length old.table.rows) old.table.limit) (nat_lt max_numbers (numbers_in old.table.rows + length path)) n (lt-ltb (length old.table.rows) old.table.limit below))
                (lt-ltb max_numbers (numbers_in old.table.rows + length path) lt))
            | inr gt ↦ omega (arith, gt)
          ]
        ] in
        record { few = omega (arith, length', below, same); short = omega (arith, numbers, short) }

still_fit_one : (limit : ℕ) (old new : Taken) (one : Cleaned) → old.table.limit ≡ limit → FitRows limit old.table.rows → take_cleaned old one ≡ Ok new → FitRows limit new.table.rows
still_fit_one limit old new (Path path) same fit e = subst (λ (t : Taken). FitRows limit t.table.rows) (path_counted old new path e) (still_fit limit old new path same fit e)
still_fit_one limit old new (Aside found) same fit e = subst (λ (t : Taken). FitRows limit t.table.rows) (same_ok (record old { counts = counted_one found old.counts }) new e) fit

all_fit : (sets : Sets) (limit : ℕ) (routes : List Route) (old new : Taken) → old.table.limit ≡ limit → FitRows limit old.table.rows → Takes sets old routes new → FitRows limit new.table.rows
unfolding take_routes
all_fit sets limit [] old new same fit e = subst (λ (t : Taken). FitRows limit t.table.rows) (same_ok old new e) fit
all_fit sets limit (route ∷ routes) old new same fit e = by (take_route sets old route) refl e (λ further. all_fit sets limit routes further new)
  where
    by : (one : Result Taken LimitKind) → take_route sets old route ≡ one → (one >>= λ further. take_routes sets further routes) ≡ Ok new
        → ((further : Taken) → further.table.limit ≡ limit → FitRows limit further.table.rows → Takes sets further routes new → FitRows limit new.table.rows) → FitRows limit new.table.rows
    by (Ok further) is e ih =
        let one = clean_of sets route.width route.attrs in
        ih further (same_limit old further one is ∙ same) (still_fit_one limit old further one same fit is) e
    by (Err kind) is e ih = absurd cc

-- ---- what fits is taken in

no_refusal : (limit : ℕ) (old : Taken) (path : List ℕ) (kind : LimitKind) → old.table.limit ≡ limit → FitRows limit (with_path old.table.rows path) → take_path old path ≡ Err kind → ⊥
no_refusal limit old path kind same fit e =
    by kind (refuses (is_some (place_of old.table.rows path)) (length old.table.rows == old.table.limit) (has_too_many_numbers old.table path)
    (record old { table = with_one old.table path }) kind e)
  where
    by : (why : LimitKind) → Refuses why (is_some (place_of old.table.rows path)) (length old.table.rows == old.table.limit) (has_too_many_numbers old.table path) → ⊥
    by Paths why =
        let more = (grow old.table.rows path false why.0).many in
        let few = fit.few in
        omega (arith, more, few, same, eqb-true (length old.table.rows) old.table.limit why.1)
    by Numbers why =
        let more = (grow old.table.rows path false why.0).numbers in
        let short = fit.short in
        let both = and_parts (nat_lt (length old.table.rows) old.table.limit) (nat_lt max_numbers (numbers_in old.table.rows + length path)) why.1 in
        omega (arith, more, short, ltb-true max_numbers (numbers_in old.table.rows + length path) both.1)
    by Bytes why = why

are_taken : (sets : Sets) (limit : ℕ) (all : List Cleaned) (routes : List Route) (old : Taken) → Sums all old → old.table.limit ≡ limit
    → FitRows limit (counted (filter_map path_in (all ++ cleaned sets routes))) → (new : Taken) × Takes sets old routes new
unfolding take_routes
are_taken sets limit all [] old so_far same fit = (old, refl)
are_taken sets limit all (route ∷ routes) old so_far same fit =
    by (clean_of sets route.width route.attrs) refl (take_route sets old route) refl (are_taken sets limit (all ++ clean_of sets route.width route.attrs ∷ []) routes)
  where
    by : (one : Cleaned) → clean_of sets route.width route.attrs ≡ one → (taking : Result Taken LimitKind) → take_route sets old route ≡ taking
        → ((further : Taken) → Sums (all ++ clean_of sets route.width route.attrs ∷ []) further → further.table.limit ≡ limit
        → FitRows limit (counted (filter_map path_in ((all ++ clean_of sets route.width route.attrs ∷ []) ++ cleaned sets routes))) → (new : Taken) × Takes sets further routes new)
        → (new : Taken) × ((taking >>= λ further. take_routes sets further routes) ≡ Ok new)
    by one is (Ok further) made ih =
        ih further (one_route all (clean_of sets route.width route.attrs) old further so_far made) (same_limit old further (clean_of sets route.width route.attrs) made ∙ same)
        (subst (λ (t : List Cleaned). FitRows limit (counted (filter_map path_in t))) (sym (append_assoc all (clean_of sets route.width route.attrs ∷ []) (cleaned sets routes))) fit)
    by (Path path) is (Err kind) made ih =
        let paths = filter_map path_in all in
        let behind = filter_map path_in (cleaned sets routes) in
        let parts : filter_map path_in (all ++ clean_of sets route.width route.attrs ∷ cleaned sets routes) ≡ (paths ++ path ∷ []) ++ behind =
        ap (λ c. filter_map path_in (all ++ c ∷ cleaned sets routes)) is ∙ filter_map-append path_in all (Path path ∷ cleaned sets routes) ∙ sym (append_assoc paths (path ∷ []) behind) in
        let with_it : FitRows limit (counted (paths ++ path ∷ [])) =
        fewer limit (paths ++ path ∷ []) behind (subst (λ (t : List (List ℕ)). FitRows limit (counted t)) parts fit) in
        absurd (no_refusal limit old path kind same
        (subst (FitRows limit) (counted_push paths path ∙ ap (λ rows. with_path rows path) (sym so_far.rows)) with_it)
        (sym (ap (take_cleaned old) is) ∙ made))
    by (Aside found) is (Err kind) made ih = absurd (never (sym (ap (take_cleaned old) is) ∙ made))
      where
        never : ◌≡◌ {A = Result Taken LimitKind} (take_cleaned old (Aside found)) (Err kind) → ⊥
        never e = cc

pub fitting : FitLaw
fitting sets before routes old so_far fit = (λ taken. all (taken.0) (taken.1), λ both. back both)
  where
    all : (new : Taken) → Takes sets old routes new → Fit old.table.limit (cleaned_paths sets (before ++ routes))
    all new takes =
        of_rows old.table.limit (cleaned_paths sets (before ++ routes))
        (subst (FitRows old.table.limit) (further sets before routes old new so_far takes).rows
        (all_fit sets old.table.limit routes old new refl (subst (FitRows old.table.limit) (sym so_far.rows) (to_rows old.table.limit (cleaned_paths sets before) fit)) takes))

    back : Fit old.table.limit (cleaned_paths sets (before ++ routes)) → (new : Taken) × Takes sets old routes new
    back both =
        are_taken sets old.table.limit (cleaned sets before) routes old (sums sets before old so_far) refl
        (subst (λ (t : List Cleaned). FitRows old.table.limit (counted (filter_map path_in t))) (cleaned-append sets before routes)
        (to_rows old.table.limit (cleaned_paths sets (before ++ routes)) both))
