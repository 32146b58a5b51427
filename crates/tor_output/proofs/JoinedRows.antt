-- The paths of a result that meets the rules are as a table of paths has them, and so is what dumps give on top of it.
use Rattle.std.proofs.Common.{◌≡◌, ◌≤◌, ◌<◌, ◌==◌, ◌&&◌, ◌||◌, ℕ, suc, ◌+◌, Bool, true, false, List, [], ◌∷◌, ◌++◌, map, length}
use Rattle.std.proofs.Common.{take, sum_by, bytes_eq, Option, Some, None, option_map, Result, Ok, Err}
use Rattle.std.proofs.Common.{All, Contains, if◌then◌else◌, inl, inr, refl, sym, ap, ap₂, subst, ◌∙◌, arith}
use Rattle.std.specs.Prelude.{is_some, nat_lt, slice_get}
use Rattle.std.specs.List.{list_all}
use Rattle.std.proofs.Math.Seq.{take-length}
use Rattle.std.proofs.lemmas.Bool.{both_ways, cases_order, eq-eqb, false_from_ne_true, lt-ltb}
use Rattle.std.proofs.lemmas.List.{length-map}
use Rattle.std.proofs.lemmas.List.Elements.{All-nil, All-cons, All-head, All-tail}
use Rattle.std.proofs.lemmas.List.Folds.{list_all-append, list_any-append}
use Rattle.std.proofs.lemmas.List.Sums.{sum_by-cons, sum_by_push}
use Rattle.std.proofs.lemmas.Option.{slice_get_within}
use Rattle.path_attrs.specs.Fields.{◌>>=◌}
use Rattle.tor_arena.specs.Growth.{one_more}
use Rattle.tor_arena.specs.Limits as limits
use Rattle.path_clean.specs.declared.cleaned.Sets.{Sets}
use Rattle.path_clean.specs.declared.cleaned.Cleaned.{Cleaned}
use Rattle.path_clean.specs.declared.cleaned.Cleaned.TheVariants.{Path, Aside}
use Rattle.path_clean.specs.Clean.{clean_of}
use Rattle.path_clean.specs.Counts.{counted_one}
use Rattle.path_clean.specs.Paths.{is_cleaned}
use Rattle.path_table.specs.Rows.{Counted, row_paths, times_of, numbers_in, none_twice}
use Rattle.path_table.specs.Table.{place_of, with_path}
use Rattle.path_clean.proofs.Judged.{paths_are_clean}
use Rattle.tor_io.specs.Contents.{Files}
use Rattle.dump_read.specs.declared.error.LimitKind.{LimitKind}
use Rattle.dump_read.specs.declared.taking.Taken.{Taken}
use Rattle.dump_read.specs.Files.{with_file}
use Rattle.dump_read.specs.Routes.{Route}
use Rattle.dump_read.specs.Seen.{DumpsEnd, of_file}
use Rattle.dump_read.specs.Taking.{with_one, has_too_many_numbers, take_path, take_cleaned, take_route, take_routes, Takes}
use Rattle.dump_read.proofs.TakingLemmas as taking
use Rattle.result_text.specs.declared.file.PathLine.{PathLine}
use Rattle.result_text.specs.declared.file.ResultFile.{ResultFile}
use Rattle.result_rules.specs.Against.{its_rows, row_of}
use Rattle.result_rules.specs.File.{its_paths}
use Rattle.result_rules.specs.Rules.{Accepts, IsSound}
use Rattle.result_rules.specs.declared.rule.Rule.TheVariants.{PathsCleaned, PathsDistinct}
use Rattle.rel_infer.specs.SelfAcceptance.{AreTableRows}
use Rattle.rel_infer.proofs.OneResult.{paths_in}
use Rattle.run_base.specs.Reading.{seen_from}
use Rattle.tor_output.specs.Seen.{joined, taken_up}
use Rattle.tor_output.proofs.Joining.{joins}
use Rattle.tor_output.proofs.ReadableLemmas.{one_taken}
use Rattle.tor_output.proofs.SeenLemmas.{same}
use Rattle.tor_output.proofs.TableRows.{eq_true, eq_flip, has, both, parts}
use Rattle.dump_read.specs.declared.wanted.Wanted.{Wanted}
use Rattle.dump_read.specs.Wanted.{all_wanted, file_routes}

-- ---- the paths of a result

abbrev path_of : PathLine → List ℕ
path_of line = line.path

found : (path : List ℕ) (lines : List PathLine) → has path (map path_of lines) ≡ true → (k : ℕ) × (line : PathLine) × (slice_get lines k ≡ Some line) × (line.path ≡ path)
found path [] h = absurd cc
found path (line ∷ lines) h = by (bytes_eq line.path path) refl h (found path lines)
  where
    by : (b : Bool) → bytes_eq line.path path ≡ b → (b || has path (map path_of lines)) ≡ true
        → (has path (map path_of lines) ≡ true → (k : ℕ) × (other : PathLine) × (slice_get lines k ≡ Some other) × (other.path ≡ path))
        → (k : ℕ) × (other : PathLine) × (slice_get (line ∷ lines) k ≡ Some other) × (other.path ≡ path)
    by true is h ih = (0, line, refl, eq_true line.path path is)
    by false is h ih = let (k, other, at, same) = ih h in (suc k, other, at, same)

clean_each : (lines : List PathLine) → ((k : ℕ) (line : PathLine) → slice_get lines k ≡ Some line → is_cleaned line.path ≡ true) → list_all is_cleaned (map path_of lines) ≡ true
clean_each [] each = refl
clean_each (line ∷ lines) each = ap₂ (λ a b. a && b) (each 0 line refl) (clean_each lines (λ k. each (suc k)))

seen_each : (lines : List PathLine) → ((k : ℕ) (line : PathLine) → slice_get lines k ≡ Some line → 1 ≤ line.times) → All (λ n. 1 ≤ n) (times_of (map row_of lines))
seen_each [] each = All-nil (λ n. 1 ≤ n)
seen_each (line ∷ lines) each = All-cons (λ n. 1 ≤ n) line.times (times_of (map row_of lines)) (each 0 line refl) (seen_each lines (λ k. each (suc k)))

once_each : (lines : List PathLine) → ((k : ℕ) (line : PathLine) → slice_get lines k ≡ Some line → Contains (take k (map path_of lines)) line.path → ⊥)
    → none_twice (map path_of lines) ≡ true
once_each [] each = refl
once_each (line ∷ lines) each =
    both (has line.path (map path_of lines)) (none_twice (map path_of lines)) (false_from_ne_true (has line.path (map path_of lines)) (λ h. again (found line.path lines h)))
    (once_each lines (λ k other at c. each (suc k) other at (suc c.0, omega (arith, c.1), c.2)))
  where
    again : (k : ℕ) × (other : PathLine) × (slice_get lines k ≡ Some other) × (other.path ≡ line.path) → ⊥
    again at = each (suc at.0) at.1 at.2 (0, omega arith, sym at.3)

last_of : (line : PathLine) (lines : List PathLine) → (last : PathLine) × (slice_get (line ∷ lines) (length lines) ≡ Some last)
last_of line [] = (line, refl)
last_of line (other ∷ lines) = last_of other lines

few_each : (most : ℕ) (lines : List PathLine) → ((k : ℕ) (line : PathLine) → slice_get lines k ≡ Some line → k < most) → length lines ≤ most
few_each most [] each = omega arith
few_each most (line ∷ lines) each =
    let last = last_of line lines in
    let lt = each (length lines) last.0 last.1 in
    omega (arith, lt)

numbers_each : (most : ℕ) (lines : List PathLine)
    → ((k : ℕ) (line : PathLine) → slice_get lines k ≡ Some line → sum_by length (take (k + 1) (map path_of lines)) ≤ most) → sum_by length (map path_of lines) ≤ most
numbers_each most [] each = omega arith
numbers_each most (line ∷ lines) each =
    let last = last_of line lines in
    let many : length lines + 1 ≡ length (map path_of (line ∷ lines)) = omega (arith, length-map lines path_of) in
    let all : take (length lines + 1) (map path_of (line ∷ lines)) ≡ map path_of (line ∷ lines) =
    ap (λ n. take n (map path_of (line ∷ lines))) many ∙ take-length (map path_of (line ∷ lines)) in
    subst (λ (ps : List (List ℕ)). sum_by length ps ≤ most) all (each (length lines) last.0 last.1)

-- by the rules 2 and 3
pub accepted_rows : (file : ResultFile) → Accepts file → AreTableRows (its_rows file)
accepted_rows file accepted = record {
  clean = subst (λ (ps : List (List ℕ)). list_all is_cleaned ps ≡ true) here (clean_each file.paths (λ k line at. (sound k line at).cleaned));
  seen = seen_each file.paths (λ k line at. (sound k line at).seen);
  once = subst (λ (ps : List (List ℕ)). none_twice ps ≡ true) here
      (once_each file.paths (λ k line at. accepted PathsDistinct k (slice_get_within file.paths k line at) line at));
  few = let few = few_each limits.max_paths file.paths (λ k line at. (sound k line at).few) in
      subst (λ (ps : List (List ℕ)). length ps ≤ limits.max_paths) here (omega (arith, few, length-map file.paths path_of));
  numbers = subst (λ (ps : List (List ℕ)). sum_by length ps ≤ limits.max_numbers) here
      (numbers_each limits.max_numbers file.paths (λ k line at. (sound k line at).numbers));
}
  where
    here : its_paths file ≡ row_paths (its_rows file)
    here = sym (paths_in file.paths)

    sound : (k : ℕ) (line : PathLine) → slice_get file.paths k ≡ Some line → IsSound file k line
    sound k line at = accepted PathsCleaned k (slice_get_within file.paths k line at) line at

-- ---- one path more

same_some : (place : Option ℕ) → is_some (option_map suc place) ≡ is_some place
same_some None = refl
same_some (Some n) = refl

is_known : (rows : List Counted) (path : List ℕ) → is_some (place_of rows path) ≡ has path (row_paths rows)
is_known [] path = refl
is_known (row ∷ rows) path = by (bytes_eq row.path path) (is_known rows path)
  where
    by : (b : Bool) → is_some (place_of rows path) ≡ has path (row_paths rows)
        → is_some (if b then Some 0 else option_map suc (place_of rows path)) ≡ (b || has path (row_paths rows))
    by true ih = refl
    by false ih = same_some (place_of rows path) ∙ ih

abbrev with_new : Bool → List (List ℕ) → List ℕ → List (List ℕ)
with_new known paths path = if known then paths else paths ++ path ∷ []

paths_with : (rows : List Counted) (path : List ℕ) → row_paths (with_path rows path) ≡ with_new (has path (row_paths rows)) (row_paths rows) path
paths_with [] path = refl
paths_with (row ∷ rows) path = by (bytes_eq row.path path) (has path (row_paths rows)) (paths_with rows path)
  where
    by : (b known : Bool) → row_paths (with_path rows path) ≡ with_new known (row_paths rows) path
        → row_paths (if b then record { path = row.path; times = one_more row.times } ∷ rows else row ∷ with_path rows path)
        ≡ with_new (b || known) (row.path ∷ row_paths rows) path
    by true known ih = refl
    by false true ih = ap (λ (ps : List (List ℕ)). row.path ∷ ps) ih
    by false false ih = ap (λ (ps : List (List ℕ)). row.path ∷ ps) ih

seen_with : (rows : List Counted) (path : List ℕ) → All (λ n. 1 ≤ n) (times_of rows) → All (λ n. 1 ≤ n) (times_of (with_path rows path))
seen_with [] path h = All-cons (λ n. 1 ≤ n) 1 [] (omega arith) (All-nil (λ n. 1 ≤ n))
seen_with (row ∷ rows) path h = by (bytes_eq row.path path) (seen_with rows path (All-tail (λ n. 1 ≤ n) row.times (times_of rows) h))
  where
    by : (b : Bool) → All (λ n. 1 ≤ n) (times_of (with_path rows path))
        → All (λ n. 1 ≤ n) (times_of (if b then record { path = row.path; times = one_more row.times } ∷ rows else row ∷ with_path rows path))
    by true ih = All-cons (λ n. 1 ≤ n) (one_more row.times) (times_of rows) (omega arith) (All-tail (λ n. 1 ≤ n) row.times (times_of rows) h)
    by false ih = All-cons (λ n. 1 ≤ n) row.times (times_of (with_path rows path)) (All-head (λ n. 1 ≤ n) row.times (times_of rows) h) ih

neither : (a b : Bool) → (a || b) ≡ false → (a ≡ false) × (b ≡ false)
neither true b h = absurd cc
neither false b h = (refl, h)

once_push : (paths : List (List ℕ)) (path : List ℕ) → none_twice paths ≡ true → has path paths ≡ false → none_twice (paths ++ path ∷ []) ≡ true
once_push [] path once new = refl
once_push (x ∷ xs) path once new =
    let at = parts (has x xs) (none_twice xs) once in
    let apart = neither (bytes_eq x path) (has path xs) new in
    both (has x (xs ++ path ∷ [])) (none_twice (xs ++ path ∷ []))
    (list_any-append (λ other. bytes_eq other x) xs (path ∷ []) ∙ ap₂ (λ a b. a || (b || false)) at.0 (eq_flip x path apart.0))
    (once_push xs path at.1 apart.1)

numbers_of : (rows : List Counted) → numbers_in rows ≡ sum_by length (row_paths rows)
numbers_of [] = refl
numbers_of (row ∷ rows) =
    sum_by-cons (λ (r : Counted). length r.path) row rows ∙ ap (λ n. length row.path + n) (numbers_of rows) ∙ sym (sum_by-cons length row.path (row_paths rows))

-- ---- what is taken in

-- as a table has it, with a limit that a table may have
pub record IsTable (taken : Taken) : Type 0 where
  pub rows : AreTableRows taken.table.rows
  pub within : length (row_paths taken.table.rows) ≤ taken.table.limit
  pub most : taken.table.limit ≤ limits.max_paths

-- from the paths of its rows
by_paths : (taken : Taken) (paths : List (List ℕ)) → row_paths taken.table.rows ≡ paths → list_all is_cleaned paths ≡ true → All (λ n. 1 ≤ n) (times_of taken.table.rows)
    → none_twice paths ≡ true → length paths ≤ taken.table.limit → taken.table.limit ≤ limits.max_paths → sum_by length paths ≤ limits.max_numbers → IsTable taken
by_paths taken paths same clean seen once within most numbers = record {
  rows = record {
    clean = subst (λ (ps : List (List ℕ)). list_all is_cleaned ps ≡ true) (sym same) clean;
    seen = seen;
    once = subst (λ (ps : List (List ℕ)). none_twice ps ≡ true) (sym same) once;
    few = subst (λ (ps : List (List ℕ)). length ps ≤ limits.max_paths) (sym same) (omega (arith, within, most));
    numbers = subst (λ (ps : List (List ℕ)). sum_by length ps ≤ limits.max_numbers) (sym same) numbers;
  };
  within = subst (λ (ps : List (List ℕ)). length ps ≤ taken.table.limit) (sym same) within;
  most = most;
}

one_path : (old new : Taken) (path : List ℕ) → is_cleaned path ≡ true → IsTable old → take_path old path ≡ Ok new → IsTable new
one_path old new path clean is e =
    subst IsTable (taking.path_counted old new path e)
    (by (has path paths) refl (length old.table.rows == old.table.limit) refl (has_too_many_numbers old.table path) refl
    (subst (λ b. taking.choose b (length old.table.rows == old.table.limit) (has_too_many_numbers old.table path) made ≡ Ok new) (is_known old.table.rows path) e))
  where
    paths : List (List ℕ)
    paths = row_paths old.table.rows

    made : Taken
    made = record old { table = with_one old.table path }

    many : length paths ≡ length old.table.rows
    many = length-map old.table.rows (λ row. row.path)

    all_clean : list_all is_cleaned (paths ++ path ∷ []) ≡ true
    all_clean = list_all-append is_cleaned paths (path ∷ []) ∙ ap₂ (λ a b. a && (b && true)) is.rows.clean clean

    few_more : (length old.table.rows == old.table.limit) ≡ false → length paths < old.table.limit
    few_more not_met =
        let within = is.within in
        elim (cases_order (length old.table.rows) old.table.limit) [
          | inl same ↦ absurd (both_ways (length old.table.rows == old.table.limit) not_met (eq-eqb (length old.table.rows) old.table.limit same))
          | inr o ↦ elim o [ inl lt ↦ omega (arith, lt, many) | inr gt ↦ absurd (omega (arith, gt, many, within)) ]
        ]

    not_both : (a b : Bool) → (a && b) ≡ false → a ≡ true → b ≡ false
    not_both true b e f = e
    not_both false b e f = absurd cc

    short_more : length paths < old.table.limit → has_too_many_numbers old.table path ≡ false → sum_by length (paths ++ path ∷ []) ≤ limits.max_numbers
    short_more below not_many =
        let none = not_both (nat_lt (length old.table.rows) old.table.limit) (nat_lt limits.max_numbers (numbers_in old.table.rows + length path)) not_many
        (lt-ltb (length old.table.rows) old.table.limit (omega (arith, below, many))) in
        let pushed : sum_by length (paths ++ path ∷ []) ≡ sum_by length paths + length path = sum_by_push length paths path in
        elim (cases_order limits.max_numbers (numbers_in old.table.rows + length path)) [
          | inl same ↦ omega (arith, same, pushed, numbers_of old.table.rows)
          | inr o ↦ elim o [
            | inl lt ↦ absurd (both_ways (nat_lt limits.max_numbers (numbers_in old.table.rows + length path)) none (lt-ltb limits.max_numbers (numbers_in old.table.rows + length path) lt))
            | inr gt ↦ omega (arith, gt, pushed, numbers_of old.table.rows)
          ]
        ]

    by : (known : Bool) → has path paths ≡ known → (met : Bool) → (length old.table.rows == old.table.limit) ≡ met
        → (many : Bool) → has_too_many_numbers old.table path ≡ many → taking.choose known met many made ≡ Ok new → IsTable made
    by true k met m more n e =
        by_paths made paths (paths_with old.table.rows path ∙ ap (λ b. with_new b paths path) k) is.rows.clean (seen_with old.table.rows path is.rows.seen) is.rows.once
        is.within is.most is.rows.numbers
    by false k true m more n e = absurd cc
    by false k false m true n e = absurd cc
    by false k false m false n e =
        let below = few_more m in
        by_paths made (paths ++ path ∷ []) (paths_with old.table.rows path ∙ ap (λ b. with_new b paths path) k) all_clean (seen_with old.table.rows path is.rows.seen)
        (once_push paths path is.rows.once k) (omega (arith, below, length_push paths path)) is.most (short_more below n)
      where
        length_push : (xs : List (List ℕ)) (x : List ℕ) → length (xs ++ x ∷ []) ≡ length xs + 1
        length_push [] x = refl
        length_push (y ∷ ys) x = let more = length_push ys x in omega (arith, more)

one_route : (sets : Sets) (old new : Taken) (route : Route) → IsTable old → take_route sets old route ≡ Ok new → IsTable new
one_route sets old new route is e = by (clean_of sets route.width route.attrs) refl e
  where
    by : (one : Cleaned) → clean_of sets route.width route.attrs ≡ one → take_cleaned old one ≡ Ok new → IsTable new
    by (Path path) cleans e = one_path old new path (paths_are_clean sets route.width route.attrs path cleans) is e
    by (Aside cause) cleans e =
        subst IsTable (taking.same_ok (record old { counts = counted_one cause old.counts }) new e) (record { rows = is.rows; within = is.within; most = is.most })

all_routes : (sets : Sets) (routes : List Route) (old new : Taken) → IsTable old → Takes sets old routes new → IsTable new
unfolding take_routes
all_routes sets [] old new is e = subst IsTable (taking.same_ok old new e) is
all_routes sets (route ∷ routes) old new is e = by (take_route sets old route) refl e (λ further. all_routes sets routes further new)
  where
    by : (one : Result Taken LimitKind) → take_route sets old route ≡ one → (one >>= λ further. take_routes sets further routes) ≡ Ok new
        → ((further : Taken) → IsTable further → Takes sets further routes new → IsTable new) → IsTable new
    by (Ok further) takes e rest = rest further (one_route sets old further route is takes) e
    by (Err kind) takes e rest = absurd cc

one_file : (wanted : Wanted) (dump : ℕ) (old new : Taken) (file : Option (List ℕ)) → IsTable old → of_file wanted dump old file ≡ Ok new → IsTable new
one_file wanted dump old new None is e = absurd cc
one_file wanted dump old new (Some octets) is e =
    let took = one_taken wanted dump octets old new e in
    let all = all_routes wanted.sets (file_routes wanted octets) old took.all is took.takes in
    let counted : IsTable (with_file wanted octets took.all) = record { rows = all.rows; within = all.within; most = all.most } in
    subst IsTable took.same counted

pub all_files : (wanted : Wanted) (dump : ℕ) (old new : Taken) (names : List (List ℕ)) (files : Files) → IsTable old → seen_from wanted dump old names files ≡ Ok new → IsTable new
all_files wanted dump old new [] files is e = subst IsTable (same old new e) is
all_files wanted dump old new (name ∷ names) files is e =
    by (of_file wanted dump old (files name)) refl e (λ further. all_files wanted (dump + 1) further new names files)
  where
    by : (one : Result Taken DumpsEnd) → of_file wanted dump old (files name) ≡ one → (one >>= λ further. seen_from wanted (dump + 1) further names files) ≡ Ok new
        → ((further : Taken) → IsTable further → seen_from wanted (dump + 1) further names files ≡ Ok new → IsTable new) → IsTable new
    by (Ok further) gives e rest = rest further (one_file wanted dump old further (files name) is gives) e
    by (Err end) gives e rest = absurd cc

-- on top of a result that meets the rules
pub joined_rows : (earlier : ResultFile) (limit : ℕ) (dumps : List (List ℕ)) (files : Files) (taken : Taken) → limit ≤ limits.max_paths → Accepts earlier
    → joined earlier limit dumps files ≡ Ok taken → AreTableRows taken.table.rows
joined_rows earlier limit dumps files taken most accepted e =
    let joining = joins earlier limit dumps files taken e in
    let few = joining.0 in
    let many : length (row_paths (its_rows earlier)) ≡ length earlier.paths = ap length (paths_in earlier.paths) ∙ length-map earlier.paths path_of in
    let begun : IsTable (taken_up earlier limit) = record { rows = accepted_rows earlier accepted; within = omega (arith, few, many); most = most } in
    (all_files (all_wanted earlier.sets) 1 (taken_up earlier limit) taken dumps files begun joining.1).rows
