-- Paths beside the first ones of a table, which have fates.
use Rattle.std.proofs.Common.{◌≡◌, ◌↔◌, ℕ, zero, suc, ◌+◌, ◌<◌, ◌≤◌, inl, inr, ◌⊎◌, Bool, true, false, not, ◌||◌, ◌&&◌, List, [], ◌∷◌, ◌++◌, length, get_or, map, filter, take, drop, Option, Some, None, option_map, unwrap_or, is_none}
use Rattle.std.proofs.Common.{slice_get, bytes_eq, cond, if◌then◌else◌, refl, sym, ap, ap₂, ◌∙◌, subst, arith, append_assoc, append-nil, All}
use Rattle.std.specs.Prelude.{count_by, fold, nat_lt, sum_by}
use Rattle.std.specs.List.{list_all}
use Rattle.std.proofs.lemmas.Bool.{cases_Bool, le-ltb, lt-ltb}
use Rattle.tor_arena.specs.Limits.{max_paths, max_numbers}
use Rattle.std.proofs.lemmas.List.{length-append, length-map, map-append, take-append-drop, take-append-le}
use Rattle.std.proofs.lemmas.List.Elements.{All-head, All-tail, All-weaker, All-push, filter-append}
use Rattle.std.proofs.lemmas.Option.{slice_get-get_or, slice_get_within}
use Rattle.std.proofs.lemmas.List.Sums.{AllPass-from_list_all, count_by-le-length, fold-append, fold_push, length-filter, sum_by-append, sum_by-cons, sum_by_push}
use Rattle.tor_arena.proofs.Gets.{All-get, take_get}
use Rattle.relationships.specs.declared.fate.Fate.{Fate}
use Rattle.relationships.specs.Evidence.{paths_of, kept_from}
use Rattle.relationships.specs.Fates.{walk_of, is_kept}
use Rattle.path_clean.specs.Paths.{is_cleaned}
use Rattle.path_table.specs.declared.table.AddRefused.{AddRefused}
use Rattle.path_table.specs.declared.table.AddRefused.TheVariants.{TooManyPaths, TooManyNumbers, NoMemory}
use Rattle.path_table.specs.Rows.{Counted, Table, none_twice, numbers_in, row_paths, times_of}
use Rattle.path_table.specs.Chains.{row_at}
use Rattle.path_table.specs.Table.{place_of, HasNumbersTooMany, IsPathTooMany}
use Rattle.path_table.proofs.TableLemmas.{eq_true}
use Rattle.route_leaks.specs.declared.meeting.Sighting.{Sighting}
use Rattle.route_leaks.specs.Inside.{is_kept_in, not_kept_in, FitLimits}
use Rattle.route_leaks.specs.Leaks.{first_passed, is_one_of, limit_beside, limit_passed, row_met, with_new}

-- ---- what the place of a path says

-- whether what stands at this place is kept
abbrev pub kept_by : List Fate → Option ℕ → Bool
kept_by fates None = false
kept_by fates (Some k) = unwrap_or (option_map is_kept (slice_get fates k)) false

none_kept_by : (place : Option ℕ) → kept_by [] place ≡ false
none_kept_by None = refl
none_kept_by (Some zero) = refl
none_kept_by (Some (suc k)) = refl

one_behind : (fate : Fate) (fates : List Fate) (place : Option ℕ) → kept_by (fate ∷ fates) (option_map suc place) ≡ kept_by fates place
one_behind fate fates None = refl
one_behind fate fates (Some k) = refl

both_true : (a b : Bool) → (not a && b) ≡ true → (a ≡ false) × (b ≡ true)
both_true true b h = absurd cc
both_true false b h = (refl, h)

-- what isn't there isn't kept
none_of_kept : (n k : ℕ) (paths : List (List ℕ)) (keeps : List Bool) (path : List ℕ) → is_one_of paths path ≡ false → is_one_of (paths_of (kept_from n (take k paths) keeps)) path ≡ false
none_of_kept n zero paths keeps path none = refl
none_of_kept n (suc k) [] keeps path none = refl
none_of_kept n (suc k) (p ∷ paths) [] path none = refl
none_of_kept n (suc k) (p ∷ paths) (keep ∷ keeps) path none = by (bytes_eq p path) refl keep none (none_of_kept (n + 1) k paths keeps path)
  where
    by : (b : Bool) → bytes_eq p path ≡ b → (keep : Bool) → (b || is_one_of paths path) ≡ false →
        (is_one_of paths path ≡ false → is_one_of (paths_of (kept_from (n + 1) (take k paths) keeps)) path ≡ false) →
        is_one_of (paths_of (kept_from n (p ∷ take k paths) (keep ∷ keeps))) path ≡ false
    by true is keep h rest = absurd cc
    by false is true h rest = rw is (rest h)
    by false is false h rest = rest h

kept_place_from : (n : ℕ) (rows : List Counted) (fates : List Fate) (path : List ℕ) → none_twice (row_paths rows) ≡ true →
    is_one_of (paths_of (kept_from n (take (length fates) (row_paths rows)) (map is_none (map walk_of fates)))) path ≡ kept_by fates (place_of rows path)
kept_place_from n [] [] path once = refl
kept_place_from n [] (fate ∷ fates) path once = refl
kept_place_from n (row ∷ rows) [] path once = sym (none_kept_by (place_of (row ∷ rows) path))
kept_place_from n (row ∷ rows) (fate ∷ fates) path once =
    let apart = both_true (is_one_of (row_paths rows) row.path) (none_twice (row_paths rows)) once in
    by apart.0 (kept_place_from (n + 1) rows fates path apart.1) (bytes_eq row.path path) refl fate
  where
    by : is_one_of (row_paths rows) row.path ≡ false → is_one_of (paths_of (kept_from (n + 1) (take (length fates) (row_paths rows)) (map is_none (map walk_of fates)))) path ≡ kept_by fates (place_of rows path) →
        (b : Bool) → bytes_eq row.path path ≡ b → (fate : Fate) →
        is_one_of (paths_of (kept_from n (row.path ∷ take (length fates) (row_paths rows)) (is_none (walk_of fate) ∷ map is_none (map walk_of fates)))) path ≡
        kept_by (fate ∷ fates) (if bytes_eq row.path path then Some 0 else option_map suc (place_of rows path))
    by new rest true is Fate.Kept = rw is refl
    by new rest false is Fate.Kept = rw is (rest ∙ sym (one_behind Fate.Kept fates (place_of rows path)))
    by new rest true is (Fate.Lost w) =
        rw is (subst (λ p. is_one_of (paths_of (kept_from (n + 1) (take (length fates) (row_paths rows)) (map is_none (map walk_of fates)))) p ≡ false) (eq_true row.path path is)
        (none_of_kept (n + 1) (length fates) (row_paths rows) (map is_none (map walk_of fates)) row.path new))
    by new rest false is (Fate.Lost w) = rw is (rest ∙ sym (one_behind (Fate.Lost w) fates (place_of rows path)))

pub kept_place : (rows : List Counted) (fates : List Fate) (path : List ℕ) → none_twice (row_paths rows) ≡ true →
    is_kept_in (row_paths rows) fates path ≡ kept_by fates (place_of rows path)
kept_place rows fates path once = kept_place_from 1 rows fates path once

-- a path that has a place is there, and one that has none isn't
some_same : {a b : ℕ} → Some a ≡ Some b → a ≡ b
some_same e = cc

place_cases : (row : Counted) (rows : List Counted) (path : List ℕ) →
    ((row.path ≡ path) × (bytes_eq row.path path ≡ true) × (place_of (row ∷ rows) path ≡ Some 0)) ⊎
    ((bytes_eq row.path path ≡ false) × (place_of (row ∷ rows) path ≡ option_map suc (place_of rows path)))
place_cases row rows path = elim (cases_Bool (bytes_eq row.path path)) [
  | inl is ↦ inl (eq_true row.path path is, is, rw is refl)
  | inr is ↦ inr (is, rw is refl)
]

suc_place : (place : Option ℕ) (k : ℕ) → option_map suc place ≡ Some k → (j : ℕ) × (place ≡ Some j) × (k ≡ suc j)
suc_place None k e = absurd cc
suc_place (Some j) k e = (j, refl, sym (some_same e))

no_place : (place : Option ℕ) → option_map suc place ≡ None → place ≡ None
no_place None e = refl
no_place (Some j) e = absurd cc

pub there_at : (rows : List Counted) (path : List ℕ) (k : ℕ) → place_of rows path ≡ Some k → slice_get (row_paths rows) k ≡ Some path
there_at [] path k at = absurd cc
there_at (row ∷ rows) path k at =
    elim (place_cases row rows path) [
      | inl c ↦ subst (λ m. slice_get (row.path ∷ row_paths rows) m ≡ Some path) (some_same (sym c.2 ∙ at)) (ap (λ p. Some p) c.0)
      | inr c ↦ let (j, is, same) = suc_place (place_of rows path) k (sym c.1 ∙ at) in
          subst (λ m. slice_get (row.path ∷ row_paths rows) m ≡ Some path) (sym same) (there_at rows path j is)
    ]

pub one_of_place : (rows : List Counted) (path : List ℕ) (k : ℕ) → place_of rows path ≡ Some k → is_one_of (row_paths rows) path ≡ true
one_of_place [] path k at = absurd cc
one_of_place (row ∷ rows) path k at =
    elim (place_cases row rows path) [
      | inl c ↦ let is = c.1 in rw is refl
      | inr c ↦ let (j, at', same) = suc_place (place_of rows path) k (sym c.1 ∙ at) in let is = c.0 in rw is (one_of_place rows path j at')
    ]

pub none_of_place : (rows : List Counted) (path : List ℕ) → place_of rows path ≡ None → is_one_of (row_paths rows) path ≡ false
none_of_place [] path at = refl
none_of_place (row ∷ rows) path at =
    elim (place_cases row rows path) [
      | inl c ↦ let bad = sym c.2 ∙ at in absurd cc
      | inr c ↦ let is = c.0 in rw is (none_of_place rows path (no_place (place_of rows path) (sym c.1 ∙ at)))
    ]

pub numbers_same : (rows : List Counted) → sum_by length (row_paths rows) ≡ numbers_in rows
numbers_same [] = refl
numbers_same (row ∷ rows) = sum_by-cons length row.path (row_paths rows) ∙ ap (λ n. length row.path + n) (numbers_same rows) ∙ sym (sum_by-cons (λ (r : Counted). length r.path) row rows)

pub with_known : (paths : List (List ℕ)) (path : List ℕ) → is_one_of paths path ≡ true → with_new paths path ≡ paths
with_known paths path is = rw is refl

pub with_unknown : (paths : List (List ℕ)) (path : List ℕ) → is_one_of paths path ≡ false → with_new paths path ≡ paths ++ path ∷ []
with_unknown paths path is = rw is refl

-- ---- more paths behind

pub more_behind : (paths : List (List ℕ)) (path : List ℕ) → (more : List (List ℕ)) × (with_new paths path ≡ paths ++ more)
more_behind paths path = elim (cases_Bool (is_one_of paths path)) [
  | inl is ↦ ([], with_known paths path is ∙ sym (append-nil paths))
  | inr is ↦ (path ∷ [], with_unknown paths path is)
]

pub all_behind : (paths others : List (List ℕ)) → (more : List (List ℕ)) × (fold with_new paths others ≡ paths ++ more)
all_behind paths [] = ([], sym (append-nil paths))
all_behind paths (path ∷ others) =
    let (one, is) = more_behind paths path in
    let (rest, are) = all_behind (with_new paths path) others in
    (one ++ rest, are ∙ ap (λ (ps : List (List ℕ)). ps ++ rest) is ∙ append_assoc paths one rest)

-- the first paths stay, and so what is kept of them
pub kept_still : (paths others : List (List ℕ)) (fates : List Fate) (path : List ℕ) → length fates ≤ length paths →
    is_kept_in (fold with_new paths others) fates path ≡ is_kept_in paths fates path
kept_still paths others fates path le =
    let (more, are) = all_behind paths others in
    ap (λ (ps : List (List ℕ)). is_one_of (paths_of (kept_from 1 ps (map is_none (map walk_of fates)))) path)
    (ap (take (length fates)) are ∙ take-append-le (length fates) paths more le)

row_still : (paths more : List (List ℕ)) (k : ℕ) → k < length paths → row_at (paths ++ more) k ≡ row_at paths k
row_still [] more k lt = absurd (omega (arith, lt))
row_still (p ∷ paths) more zero lt = refl
row_still (p ∷ paths) more (suc k) lt = row_still paths more k (omega (arith, lt))

-- what was met stands where it stood
pub met_still : (paths more : List (List ℕ)) (met : List Sighting) → All (λ (m : Sighting). m.place < length paths) met → map (row_met (paths ++ more)) met ≡ map (row_met paths) met
met_still paths more [] there = refl
met_still paths more (m ∷ met) there =
    ap₂ (λ (r : Counted) (rs : List Counted). r ∷ rs)
    (ap (λ (p : List ℕ). record { path = p; times = m.times }) (row_still paths more m.place (All-head (λ (m : Sighting). m.place < length paths) m met there)))
    (met_still paths more met (All-tail (λ (m : Sighting). m.place < length paths) m met there))

-- the row in a place, by its path and its times
pub row_here : (rows : List Counted) (k : ℕ) (path : List ℕ) (times : ℕ) → slice_get (row_paths rows) k ≡ Some path → slice_get (times_of rows) k ≡ Some times →
    slice_get rows k ≡ Some (record { path = path; times = times })
row_here [] k path times is seen = absurd (none k is)
  where
    none : (k : ℕ) → slice_get [] k ≡ Some path → ⊥
    none zero e = cc
    none (suc k) e = cc
row_here (row ∷ rows) zero path times is seen =
    ap₂ (λ (p : List ℕ) (t : ℕ). Some (record { path = p; times = t })) (some_path row.path path is) (some_times row.times times seen)
  where
    some_path : (x y : List ℕ) → Some x ≡ Some y → x ≡ y
    some_path x y e = cc

    some_times : (x y : ℕ) → Some x ≡ Some y → x ≡ y
    some_times x y e = cc
row_here (row ∷ rows) (suc k) path times is seen = row_here rows k path times is seen

pub row_met_there : (paths : List (List ℕ)) (place times : ℕ) (path : List ℕ) → slice_get paths place ≡ Some path →
    row_met paths (record { place = place; times = times }) ≡ record { path = path; times = times }
row_met_there paths place times path at = ap (λ (o : Option (List ℕ)). record { path = unwrap_or o []; times = times }) at

-- ---- all so far are among all

module _ (paths others : List (List ℕ)) (k : ℕ) where
  pub next_on : (path : List ℕ) → slice_get others k ≡ Some path → fold with_new paths (take (k + 1) others) ≡ with_new (fold with_new paths (take k others)) path
  next_on path at = ap (fold with_new paths) (take_get others k path at) ∙ fold_push with_new paths (take k others) path

-- ---- limits

pub none_passed : (paths : List (List ℕ)) → FitLimits paths → limit_passed paths ≡ None
none_passed paths fit =
    let few : nat_lt max_paths (length paths) ≡ false = le-ltb max_paths (length paths) fit.0 in
    let short : nat_lt max_numbers (sum_by length paths) ≡ false = le-ltb max_numbers (sum_by length paths) fit.1 in
    rw few (rw short refl)

pub paths_passed : (paths : List (List ℕ)) → max_paths < length paths → limit_passed paths ≡ Some TooManyPaths
paths_passed paths many = let more : nat_lt max_paths (length paths) ≡ true = lt-ltb max_paths (length paths) many in rw more refl

pub numbers_passed : (paths : List (List ℕ)) → length paths ≤ max_paths → max_numbers < sum_by length paths → limit_passed paths ≡ Some TooManyNumbers
numbers_passed paths few long =
    let none : nat_lt max_paths (length paths) ≡ false = le-ltb max_paths (length paths) few in
    let more : nat_lt max_numbers (sum_by length paths) ≡ true = lt-ltb max_numbers (sum_by length paths) long in
    rw none (rw more refl)

-- why a table doesn't take a path
pub passed_by : (table : Table) (path : List ℕ) (why : AddRefused) → table.limit ≡ max_paths → (why ≡ TooManyPaths → IsPathTooMany table path) →
    (why ≡ TooManyNumbers → HasNumbersTooMany table path) → (why ≡ NoMemory) ⊎ (limit_passed (with_new (row_paths table.rows) path) ≡ Some why)
passed_by table path TooManyPaths limit paths numbers =
    let many = paths refl in
    let full = many.1 in
    let new = ap length (with_unknown (row_paths table.rows) path (none_of_place table.rows path many.0)) in
    inr (paths_passed (with_new (row_paths table.rows) path)
    (omega (arith, full, limit, new, length-append (row_paths table.rows) (path ∷ []), length-map table.rows (λ (row : Counted). row.path))))
passed_by table path TooManyNumbers limit paths numbers =
    let many = numbers refl in
    let few = many.1 in
    let over = many.2 in
    let unknown = with_unknown (row_paths table.rows) path (none_of_place table.rows path many.0) in
    let new = ap length unknown in
    let sum = ap (sum_by length) unknown in
    inr (numbers_passed (with_new (row_paths table.rows) path)
    (omega (arith, few, limit, new, length-append (row_paths table.rows) (path ∷ []), length-map table.rows (λ (row : Counted). row.path)))
    (omega (arith, over, sum, numbers_same table.rows, sum_by-append length (row_paths table.rows) (path ∷ []), sum_by-cons length path [])))
passed_by table path NoMemory limit paths numbers = inl refl

-- what fits with others behind it, fits
fit_before : (paths more : List (List ℕ)) → FitLimits (paths ++ more) → FitLimits paths
fit_before paths more fit = (
  (let le = fit.0 in omega (arith, le, length-append paths more)),
  (let le = fit.1 in omega (arith, le, sum_by-append length paths more)),
)

fit_first : (paths others : List (List ℕ)) → FitLimits (fold with_new paths others) → FitLimits paths
fit_first paths others fit = let (more, are) = all_behind paths others in fit_before paths more (subst FitLimits are fit)

-- where all others fit beside the paths, no limit is passed
pub none_beside : (paths others : List (List ℕ)) → FitLimits (fold with_new paths others) → limit_beside paths others ≡ None
none_beside paths [] fit = refl
none_beside paths (other ∷ others) fit =
    let here = none_passed (with_new paths other) (fit_first (with_new paths other) others fit) in
    ap (λ (o : Option AddRefused). first_passed o (limit_beside (with_new paths other) others)) here ∙ none_beside (with_new paths other) others fit

-- where those before one fit, and with it a limit is passed, this is the first
pub passed_at : (paths others : List (List ℕ)) (k : ℕ) (path : List ℕ) (why : AddRefused) → slice_get others k ≡ Some path → FitLimits (fold with_new paths (take k others)) →
    limit_passed (with_new (fold with_new paths (take k others)) path) ≡ Some why → limit_beside paths others ≡ Some why
passed_at paths [] k path why at fit passed = absurd (none k at)
  where
    none : (k : ℕ) → ◌≡◌ {A = Option (List ℕ)} (slice_get [] k) (Some path) → ⊥
    none zero e = cc
    none (suc k) e = cc
passed_at paths (other ∷ others) zero path why at fit passed =
    let same : other ≡ path = some_path other path at in
    let here = ap (λ (p : List ℕ). limit_passed (with_new paths p)) same ∙ passed in
    ap (λ (o : Option AddRefused). first_passed o (limit_beside (with_new paths other) others)) here
  where
    some_path : (x y : List ℕ) → Some x ≡ Some y → x ≡ y
    some_path x y e = cc
passed_at paths (other ∷ others) (suc k) path why at fit passed =
    let here = none_passed (with_new paths other) (fit_first (with_new paths other) (take k others) fit) in
    ap (λ (o : Option AddRefused). first_passed o (limit_beside (with_new paths other) others)) here ∙ passed_at (with_new paths other) others k path why at fit passed

pub first_met : (paths others : List (List ℕ)) (k : ℕ) (path : List ℕ) (why : AddRefused) → slice_get others k ≡ Some path → FitLimits (fold with_new paths (take k others)) →
    (why ≡ NoMemory) ⊎ (limit_passed (with_new (fold with_new paths (take k others)) path) ≡ Some why) → (why ≡ NoMemory) ⊎ (limit_beside paths others ≡ Some why)
first_met paths others k path why at fit (inl memory) = inl memory
first_met paths others k path why at fit (inr passed) = inr (passed_at paths others k path why at fit passed)

-- ---- the clean paths of a table

pub clean_at : (paths : List (List ℕ)) (k : ℕ) (path : List ℕ) → list_all is_cleaned paths ≡ true → slice_get paths k ≡ Some path → is_cleaned path ≡ true
clean_at paths k path all at = All-get (λ p. is_cleaned p ≡ true) paths k path (AllPass-from_list_all is_cleaned paths all) at

pub length_taken : (k : ℕ) (paths : List (List ℕ)) → length (take k paths) ≤ length paths
length_taken zero paths = omega arith
length_taken (suc k) [] = omega arith
length_taken (suc k) (p ∷ paths) = omega (arith, length_taken k paths)

pub few_met : (paths : List (List ℕ)) (fates : List Fate) (rows : List (List ℕ)) (seen : List Counted) (met : List Sighting) → map (row_met rows) met ≡ not_kept_in paths fates seen →
    length met ≤ length (row_paths seen)
few_met paths fates rows seen met are =
    let same = ap length are in
    let many = length-map met (row_met rows) in
    let all = length-map seen (λ (r : Counted). r.path) in
    omega (arith, same, many, all, length-filter (λ (row : Counted). not (is_kept_in paths fates row.path)) seen, count_by-le-length (λ (row : Counted). not (is_kept_in paths fates row.path)) seen)

-- ---- one path of the dumps more

pub not_kept : {X : Type 0} (found : Option X) (x : X) (b : Bool) → (found ≡ None) ↔ (b ≡ true) → found ≡ Some x → b ≡ false
not_kept found x true says is = absurd (let bad = sym is ∙ says.1 refl in cc)
not_kept found x false says is = refl

pub often_at : (seen : List Counted) (k : ℕ) (path : List ℕ) (ts : List ℕ) → slice_get (row_paths seen) k ≡ Some path → ts ≡ times_of seen →
    slice_get (times_of seen) k ≡ Some (get_or ts k 0)
often_at seen k path ts at are =
    let lt = slice_get_within (row_paths seen) k path at in
    let one = length-map seen (λ (r : Counted). r.path) in
    let two = length-map seen (λ (r : Counted). r.times) in
    let same = ap length are in
    ap (λ (l : List ℕ). slice_get l k) (sym are) ∙ slice_get-get_or ts k 0 (omega (arith, lt, one, two, same))

pub there_paths : (rows : List Counted) (met : List Sighting) → All (λ (m : Sighting). m.place < length rows) met → All (λ (m : Sighting). m.place < length (row_paths rows)) met
there_paths rows met there = subst (λ n. All (λ (m : Sighting). m.place < n) met) (sym (length-map rows (λ (r : Counted). r.path))) there

pub there_rows : (rows : List Counted) (met : List Sighting) → All (λ (m : Sighting). m.place < length (row_paths rows)) met → All (λ (m : Sighting). m.place < length rows) met
there_rows rows met there = subst (λ n. All (λ (m : Sighting). m.place < n) met) (length-map rows (λ (r : Counted). r.path)) there

module _ (start : List (List ℕ)) (fates : List Fate) (seen : List Counted) (k : ℕ) (path : List ℕ) (times : ℕ) (old new : List (List ℕ))
    (first : length fates ≤ length start) (so_far : old ≡ fold with_new start (take k (row_paths seen))) (now : new ≡ with_new old path)
    (at : slice_get (row_paths seen) k ≡ Some path) (often : slice_get (times_of seen) k ≡ Some times)
  where
    pub rows_next : new ≡ fold with_new start (take (k + 1) (row_paths seen))
    rows_next = now ∙ ap (λ (ps : List (List ℕ)). with_new ps path) so_far ∙ sym (next_on start (row_paths seen) k path at)

    row_next : take (k + 1) seen ≡ take k seen ++ record { path = path; times = times } ∷ []
    row_next = take_get seen k (record { path = path; times = times }) (row_here seen k path times at often)

    same_kept : is_kept_in old fates path ≡ is_kept_in start fates path
    same_kept = ap (λ (ps : List (List ℕ)). is_kept_in ps fates path) so_far ∙ kept_still start (take k (row_paths seen)) fates path first

    module _ (met : List Sighting) (there : All (λ (m : Sighting). m.place < length old) met) where
      met_same : map (row_met new) met ≡ map (row_met old) met
      met_same =
          let (more, are) = more_behind old path in
          ap (λ (ps : List (List ℕ)). map (row_met ps) met) (now ∙ are) ∙ met_still old more met there

      pub there_next : All (λ (m : Sighting). m.place < length new) met
      there_next =
          let (more, are) = more_behind old path in
          let sum = ap length (now ∙ are) in
          All-weaker (λ (m : Sighting). m.place < length old) (λ (m : Sighting). m.place < length new) (λ m lt. omega (arith, lt, sum, length-append old more)) met there

      module _ (kept : is_kept_in old fates path ≡ true) where
        pub known_next : (known : ℕ) → known ≡ count_by (λ row. is_kept_in start fates row.path) (take k seen) → known + 1 ≡ count_by (λ row. is_kept_in start fates row.path) (take (k + 1) seen)
        known_next known is =
            let yes : is_kept_in start fates path ≡ true = sym same_kept ∙ kept in
            let f : Bool → ℕ = λ b. cond b 1 0 in
            let one = ap f yes in
            let sum = ap (count_by (λ (row : Counted). is_kept_in start fates row.path)) row_next in
            let push = sum_by_push (λ (row : Counted). cond (is_kept_in start fates row.path) 1 0) (take k seen) (record { path = path; times = times }) in
            omega (arith, is, one, sum, push)

        pub met_next : map (row_met old) met ≡ not_kept_in start fates (take k seen) → map (row_met new) met ≡ not_kept_in start fates (take (k + 1) seen)
        met_next is =
            let p = λ (row : Counted). not (is_kept_in start fates row.path) in
            let out : filter p (record { path = path; times = times } ∷ []) ≡ [] = ap (λ b. cond (not b) (record { path = path; times = times } ∷ []) []) (sym same_kept ∙ kept) in
            met_same ∙ is ∙ sym (ap (filter p) row_next ∙ filter-append p (take k seen) (record { path = path; times = times } ∷ []) ∙
            ap (λ (rows : List Counted). filter p (take k seen) ++ rows) out ∙ append-nil (filter p (take k seen)))

      module _ (kept : is_kept_in old fates path ≡ false) where
        pub known_still : (known : ℕ) → known ≡ count_by (λ row. is_kept_in start fates row.path) (take k seen) → known ≡ count_by (λ row. is_kept_in start fates row.path) (take (k + 1) seen)
        known_still known is =
            let f : Bool → ℕ = λ b. cond b 1 0 in
            let none = ap f (sym same_kept ∙ kept) in
            let sum = ap (count_by (λ (row : Counted). is_kept_in start fates row.path)) row_next in
            let push = sum_by_push (λ (row : Counted). cond (is_kept_in start fates row.path) 1 0) (take k seen) (record { path = path; times = times }) in
            omega (arith, is, none, sum, push)

        module _ (place : ℕ) (stands : slice_get new place ≡ Some path) where
          pub met_more : map (row_met old) met ≡ not_kept_in start fates (take k seen) →
              map (row_met new) (met ++ record { place = place; times = times } ∷ []) ≡ not_kept_in start fates (take (k + 1) seen)
          met_more is =
              let p = λ (row : Counted). not (is_kept_in start fates row.path) in
              let row : Counted = record { path = path; times = times } in
              let in' : filter p (row ∷ []) ≡ row ∷ [] = ap (λ b. cond (not b) (row ∷ []) []) (sym same_kept ∙ kept) in
              map-append (row_met new) met (record { place = place; times = times } ∷ []) ∙
              ap₂ (λ (rows : List Counted) (r : Counted). rows ++ r ∷ []) (met_same ∙ is) (row_met_there new place times path stands) ∙
              sym (ap (filter p) row_next ∙ filter-append p (take k seen) (row ∷ []) ∙ ap (λ (rows : List Counted). filter p (take k seen) ++ rows) in')

          pub there_more : All (λ (m : Sighting). m.place < length new) (met ++ record { place = place; times = times } ∷ [])
          there_more = All-push (λ (m : Sighting). m.place < length new) met (record { place = place; times = times }) there_next (slice_get_within new place path stands)
