-- What dumps give is as a table of paths has it: clean paths, each seen and none twice, and no more than may be.
use Rattle.std.proofs.Common.{◌≡◌, ℕ, ◌+◌, ◌≤◌, Bool, true, false, not, ◌&&◌, ◌||◌, cond, List, [], ◌∷◌, map, length, sum_by, bytes_eq, All, refl, sym, ap, ap₂, subst, ◌∙◌, arith}
use Rattle.std.specs.Prelude.{count_by, filter, filter_map}
use Rattle.std.specs.List.{list_any, list_all}
use Rattle.std.proofs.lemmas.Slice.Eq.{bytes_eq-Decides}
use Rattle.std.proofs.lemmas.Bool.{both_ways}
use Rattle.std.proofs.lemmas.List.Elements.{All-nil, All-cons, All-head, All-tail, All-filter, All-map, All-weaker}
use Rattle.std.proofs.lemmas.List.Sums.{sum_by-cons}
use Rattle.tor_arena.specs.Limits as limits
use Rattle.path_clean.specs.declared.cleaned.Sets.{Sets}
use Rattle.path_clean.specs.declared.cleaned.Cleaned.{Cleaned}
use Rattle.path_clean.specs.declared.cleaned.Cleaned.TheVariants.{Path, Aside}
use Rattle.path_clean.specs.Clean.{clean_of}
use Rattle.path_clean.specs.Paths.{is_cleaned}
use Rattle.path_table.specs.Rows.{Counted, row_paths, times_of, none_twice}
use Rattle.path_table.specs.Table.{distinct_paths, times, counted}
use Rattle.path_clean.proofs.Judged.{paths_are_clean}
use Rattle.dump_read.specs.Batches.{cleaned}
use Rattle.dump_read.specs.Laws.{Fit, path_in, cleaned_paths}
use Rattle.dump_read.specs.Routes.{Route}
use Rattle.rel_infer.specs.SelfAcceptance.{AreTableRows}

pub eq_true : (x y : List ℕ) → bytes_eq x y ≡ true → x ≡ y
eq_true x y e = (bytes_eq-Decides x y).0 e

eq_self : (x : List ℕ) → bytes_eq x x ≡ true
eq_self x = (bytes_eq-Decides x x).1 refl

pub eq_flip : (x y : List ℕ) → bytes_eq x y ≡ false → bytes_eq y x ≡ false
eq_flip x y e = by (bytes_eq y x) refl
  where
    by : (c : Bool) → bytes_eq y x ≡ c → bytes_eq y x ≡ false
    by true f = absurd (both_ways (bytes_eq x y) e (subst (λ (t : List ℕ). bytes_eq t y ≡ true) (eq_true y x f) (eq_self y)))
    by false f = f

-- ---- none twice

abbrev pub has : List ℕ → List (List ℕ) → Bool
has p paths = list_any (λ other. bytes_eq other p) paths

abbrev others : List ℕ → List (List ℕ) → List (List ℕ)
others x paths = filter (λ other. not (bytes_eq other x)) paths

has_others : (p x : List ℕ) (ds : List (List ℕ)) → bytes_eq p x ≡ false → has p (others x ds) ≡ has p ds
has_others p x [] ne = refl
has_others p x (d ∷ ds) ne = by (has_others p x ds ne) (bytes_eq d x) refl
  where
    by : has p (others x ds) ≡ has p ds → (b : Bool) → bytes_eq d x ≡ b → has p (cond (not (bytes_eq d x)) (d ∷ others x ds) (others x ds)) ≡ (bytes_eq d p || has p ds)
    by ih true e =
        let apart : bytes_eq d p ≡ false = subst (λ (t : List ℕ). bytes_eq t p ≡ false) (sym (eq_true d x e)) (eq_flip p x ne) in
        ap (λ c. has p (cond (not c) (d ∷ others x ds) (others x ds))) e ∙ ih ∙ ap (λ c. c || has p ds) (sym apart)
    by ih false e = ap (λ c. has p (cond (not c) (d ∷ others x ds) (others x ds))) e ∙ ap (λ c. bytes_eq d p || c) ih

lacks_itself : (x : List ℕ) (ds : List (List ℕ)) → has x (others x ds) ≡ false
lacks_itself x [] = refl
lacks_itself x (d ∷ ds) = by (lacks_itself x ds) (bytes_eq d x) refl
  where
    by : has x (others x ds) ≡ false → (b : Bool) → bytes_eq d x ≡ b → has x (cond (not (bytes_eq d x)) (d ∷ others x ds) (others x ds)) ≡ false
    by ih true e = ap (λ c. has x (cond (not c) (d ∷ others x ds) (others x ds))) e ∙ ih
    by ih false e = ap (λ c. has x (cond (not c) (d ∷ others x ds) (others x ds))) e ∙ ap (λ c. c || has x (others x ds)) e ∙ ih

pub both : (a b : Bool) → a ≡ false → b ≡ true → (not a && b) ≡ true
both true b n h = cc
both false b n h = h

pub parts : (a b : Bool) → (not a && b) ≡ true → (a ≡ false) × (b ≡ true)
parts true b h = cc
parts false b h = (refl, h)

others_once : (x : List ℕ) (ds : List (List ℕ)) → none_twice ds ≡ true → none_twice (others x ds) ≡ true
others_once x [] once = refl
others_once x (d ∷ ds) once = by (others_once x ds (parts (has d ds) (none_twice ds) once).1) (bytes_eq d x) refl
  where
    by : none_twice (others x ds) ≡ true → (b : Bool) → bytes_eq d x ≡ b → none_twice (cond (not (bytes_eq d x)) (d ∷ others x ds) (others x ds)) ≡ true
    by ih true e = ap (λ c. none_twice (cond (not c) (d ∷ others x ds) (others x ds))) e ∙ ih
    by ih false e =
        ap (λ c. none_twice (cond (not c) (d ∷ others x ds) (others x ds))) e
        ∙ both (has d (others x ds)) (none_twice (others x ds)) (has_others d x ds e ∙ (parts (has d ds) (none_twice ds) once).0) ih

distinct_once : (paths : List (List ℕ)) → none_twice (distinct_paths paths) ≡ true
distinct_once [] = refl
distinct_once (x ∷ xs) =
    both (has x (others x (distinct_paths xs))) (none_twice (others x (distinct_paths xs))) (lacks_itself x (distinct_paths xs)) (others_once x (distinct_paths xs) (distinct_once xs))

-- ---- clean, and seen

distinct_all : (P : List ℕ → Type 0) (paths : List (List ℕ)) → All P paths → All P (distinct_paths paths)
distinct_all P [] h = h
distinct_all P (x ∷ xs) h =
    All-cons P x (others x (distinct_paths xs)) (All-head P x xs h) (All-filter (λ other. not (bytes_eq other x)) P (distinct_paths xs) (distinct_all P xs (All-tail P x xs h)))

abbrev count : List (List ℕ) → List ℕ → ℕ
count paths p = count_by (λ other. bytes_eq other p) paths

count_cons : (x : List ℕ) (xs : List (List ℕ)) (p : List ℕ) → count (x ∷ xs) p ≡ cond (bytes_eq x p) 1 0 + count xs p
count_cons x xs p = sum_by-cons (λ other. cond (bytes_eq other p) 1 0) x xs

each_counted : (paths : List (List ℕ)) → All (λ p. 1 ≤ count paths p) (distinct_paths paths)
each_counted [] = All-nil (λ p. 1 ≤ count [] p)
each_counted (x ∷ xs) =
    All-cons (λ p. 1 ≤ count (x ∷ xs) p) x (others x (distinct_paths xs)) (omega (arith, count_cons x xs x, ap {B = ℕ} (λ b. cond b 1 0) (eq_self x)))
    (All-filter (λ other. not (bytes_eq other x)) (λ p. 1 ≤ count (x ∷ xs) p) (distinct_paths xs)
    (All-weaker (λ p. 1 ≤ count xs p) (λ p. 1 ≤ count (x ∷ xs) p) (λ p le. omega (arith, le, count_cons x xs p)) (distinct_paths xs) (each_counted xs)))

all_cleaned : (sets : Sets) (routes : List Route) → All (λ p. is_cleaned p ≡ true) (cleaned_paths sets routes)
all_cleaned sets [] = All-nil (λ p. is_cleaned p ≡ true)
all_cleaned sets (route ∷ routes) = by (clean_of sets route.width route.attrs) refl (all_cleaned sets routes)
  where
    by : (one : Cleaned) → clean_of sets route.width route.attrs ≡ one → All (λ p. is_cleaned p ≡ true) (cleaned_paths sets routes) →
        All (λ p. is_cleaned p ≡ true) (filter_map path_in (one ∷ cleaned sets routes))
    by (Path path) e ih = All-cons (λ p. is_cleaned p ≡ true) path (cleaned_paths sets routes) (paths_are_clean sets route.width route.attrs path e) ih
    by (Aside cause) e ih = ih

as_test : (paths : List (List ℕ)) → All (λ p. is_cleaned p ≡ true) paths → list_all is_cleaned paths ≡ true
as_test [] h = refl
as_test (x ∷ xs) h = ap₂ (λ a b. a && b) (All-head (λ p. is_cleaned p ≡ true) x xs h) (as_test xs (All-tail (λ p. is_cleaned p ≡ true) x xs h))

-- ---- rows

abbrev rows_by : (List ℕ → ℕ) → List (List ℕ) → List Counted
rows_by f ds = map (λ path. record { path = path; times = f path }) ds

their_paths : (f : List ℕ → ℕ) (ds : List (List ℕ)) → row_paths (rows_by f ds) ≡ ds
their_paths f [] = refl
their_paths f (d ∷ ds) = ap (λ t. d ∷ t) (their_paths f ds)

their_times : (f : List ℕ → ℕ) (ds : List (List ℕ)) → times_of (rows_by f ds) ≡ map f ds
their_times f [] = refl
their_times f (d ∷ ds) = ap (λ t. f d ∷ t) (their_times f ds)

pub counted_rows : (sets : Sets) (routes : List Route) (limit : ℕ) → limit ≤ limits.max_paths → Fit limit (cleaned_paths sets routes) → AreTableRows (counted (cleaned_paths sets routes))
counted_rows sets routes limit less fit =
    let paths = cleaned_paths sets routes in
    let its_paths = sym (their_paths (times paths) (distinct_paths paths)) in
    let its_times = sym (their_times (times paths) (distinct_paths paths)) in
    let few = fit.paths_few in
    record {
      clean = subst (λ ps. list_all is_cleaned ps ≡ true) its_paths (as_test (distinct_paths paths) (distinct_all (λ p. is_cleaned p ≡ true) paths (all_cleaned sets routes)));
      seen = subst (All (λ n. 1 ≤ n)) its_times
          (All-map (λ n. 1 ≤ n) (times paths) (distinct_paths paths)
          (All-weaker (λ p. 1 ≤ count paths p) (λ p. 1 ≤ times paths p) (λ p le. omega (arith, le)) (distinct_paths paths) (each_counted paths)));
      once = subst (λ ps. none_twice ps ≡ true) its_paths (distinct_once paths);
      few = subst (λ ps. length ps ≤ limits.max_paths) its_paths (omega (arith, few, less));
      numbers = subst (λ ps. sum_by length ps ≤ limits.max_numbers) its_paths fit.numbers_few;
    }
