-- Where the taking in of routes ends: at the first whose path is new and would pass a limit.
use Rattle.std.proofs.Common.{◌≡◌, ◌∙◌, ◌+◌, ◌<◌, ◌==◌, ◌&&◌, ◌||◌, ◌++◌, ◌∷◌, [], List, ℕ, suc, Bool, true, false, cond, Option, Some, None, option_map, Result, Ok, Err, length, map, bytes_eq, refl}
use Rattle.std.proofs.Common.{sym, ap, subst, append_assoc}
use Rattle.std.specs.Prelude.{is_some, nat_lt, sum_by}
use Rattle.std.specs.List.{list_any}
use Rattle.std.proofs.lemmas.Bool.{and_parts, eqb-true, ltb-true}
use Rattle.std.proofs.lemmas.List.Sums.{sum_by-cons}
use Rattle.path_attrs.specs.Fields.{◌>>=◌}
use Rattle.path_clean.specs.declared.cleaned.Sets.{Sets}
use Rattle.path_clean.specs.declared.cleaned.Cleaned.{Cleaned}
use Rattle.path_clean.specs.declared.cleaned.Cleaned.TheVariants.{Path, Aside}
use Rattle.path_clean.specs.Clean.{clean_of}
use Rattle.path_clean.specs.Counts.{counted_one}
use Rattle.tor_arena.specs.Limits.{max_numbers}
use Rattle.path_table.specs.Rows.{Counted, Table, numbers_in}
use Rattle.path_table.specs.Table.{place_of, distinct_paths, counted, times}
use Rattle.dump_read.specs.declared.error.LimitKind.{LimitKind}
use Rattle.dump_read.specs.declared.error.LimitKind.TheVariants.{Paths, Numbers, Bytes}
use Rattle.dump_read.specs.Routes.{Route}
use Rattle.dump_read.specs.Taking.{Taken, with_one, has_too_many_numbers, take_path, take_cleaned, take_route, take_routes, Takes}
use Rattle.dump_read.specs.Laws.{cleaned_paths, IsTakenOf, PassesLimit, StopsAtLimit, LimitLaw}
use Rattle.dump_read.proofs.Takings.{no_entry, takes_one_more}
use Rattle.dump_read.proofs.TakingLemmas.{further, path_counted, same_ok, choose}

-- ---- rows of distinct paths

abbrev pub rows_by : (List ℕ → ℕ) → List (List ℕ) → List Counted
rows_by f paths = map (λ path. record { path = path; times = f path }) paths

pub length_rows : (f : List ℕ → ℕ) (paths : List (List ℕ)) → length (rows_by f paths) ≡ length paths
length_rows f [] = refl
length_rows f (path ∷ paths) = ap suc (length_rows f paths)

pub numbers_rows : (f : List ℕ → ℕ) (paths : List (List ℕ)) → numbers_in (rows_by f paths) ≡ sum_by length paths
numbers_rows f [] = refl
numbers_rows f (path ∷ paths) =
    sum_by-cons (λ (row : Counted). length row.path) (record { path = path; times = f path }) (rows_by f paths)
    ∙ ap (λ n. length path + n) (numbers_rows f paths) ∙ sym (sum_by-cons length path paths)

unplaced : (f : List ℕ → ℕ) (paths : List (List ℕ)) (path : List ℕ) → is_some (place_of (rows_by f paths) path) ≡ false
    → list_any (λ other. bytes_eq other path) paths ≡ false
unplaced f [] path none = refl
unplaced f (other ∷ others) path none = by (bytes_eq other path) (place_of (rows_by f others) path) none (unplaced f others path)
  where
    by : (b : Bool) (o : Option ℕ) → is_some (cond b (Some 0) (option_map suc o)) ≡ false → (is_some o ≡ false → list_any (λ p. bytes_eq p path) others ≡ false)
        → (b || list_any (λ p. bytes_eq p path) others) ≡ false
    by true o none ih = absurd cc
    by false None none ih = ih refl
    by false (Some k) none ih = absurd cc

-- ---- the limit of a table stays

pub same_limit : (old new : Taken) (one : Cleaned) → take_cleaned old one ≡ Ok new → new.table.limit ≡ old.table.limit
same_limit old new (Path path) e = ap (λ (t : Taken). t.table.limit) (sym (path_counted old new path e))
same_limit old new (Aside found) e = ap (λ (t : Taken). t.table.limit) (sym (same_ok (record old { counts = counted_one found old.counts }) new e))

-- ---- the path that is refused

same_kind : (x y : LimitKind) → ◌≡◌ {A = Result Taken LimitKind} (Err x) (Err y) → x ≡ y
same_kind x y e = cc

-- the test that refused it
abbrev pub Refuses : LimitKind → (known met many : Bool) → Type 0
Refuses Paths known met many = (known ≡ false) × (met ≡ true)
Refuses Numbers known met many = (known ≡ false) × (many ≡ true)
Refuses Bytes known met many = ⊥

pub refuses : (known met many : Bool) (made : Taken) (kind : LimitKind) → choose known met many made ≡ Err kind → Refuses kind known met many
refuses true met many made kind e = absurd cc
refuses false true many made kind e = subst (λ k. Refuses k false true many) (same_kind Paths kind e) (refl, refl)
refuses false false true made kind e = subst (λ k. Refuses k false false true) (same_kind Numbers kind e) (refl, refl)
refuses false false false made kind e = absurd cc

record Stops (kind : LimitKind) (limit : ℕ) (known : List (List ℕ)) (path : List ℕ) : Type 0 where
  is_new : list_any (λ other. bytes_eq other path) known ≡ false
  passes : PassesLimit kind limit known path

at_path : (f : List ℕ → ℕ) (known : List (List ℕ)) (limit : ℕ) (path : List ℕ) (kind : LimitKind)
    → Refuses kind (is_some (place_of (rows_by f known) path)) (length (rows_by f known) == limit) (nat_lt (length (rows_by f known)) limit && nat_lt max_numbers (numbers_in (rows_by f known) +
    length path))
    → Stops kind limit known path
at_path f known limit path Paths by = record {
  is_new = unplaced f known path by.0;
  passes = sym (length_rows f known) ∙ eqb-true (length (rows_by f known)) limit by.1;
}
at_path f known limit path Numbers by =
    let both = and_parts (nat_lt (length (rows_by f known)) limit) (nat_lt max_numbers (numbers_in (rows_by f known) + length path)) by.1 in
    record {
      is_new = unplaced f known path by.0;
      passes = (
        subst (λ n. n < limit) (length_rows f known) (ltb-true (length (rows_by f known)) limit both.0),
        subst (λ n. max_numbers < n + length path) (numbers_rows f known) (ltb-true max_numbers (numbers_in (rows_by f known) + length path) both.1),
      );
    }
at_path f known limit path Bytes by = absurd by

stopped : (paths : List (List ℕ)) (taken : Taken) (limit : ℕ) (path : List ℕ) (kind : LimitKind) → taken.table.rows ≡ counted paths → taken.table.limit ≡ limit
    → take_path taken path ≡ Err kind → Stops kind limit (distinct_paths paths) path
stopped paths taken limit path kind rows stays e =
    let by = refuses (is_some (place_of taken.table.rows path)) (length taken.table.rows == taken.table.limit) (has_too_many_numbers taken.table path)
    (record taken { table = with_one taken.table path }) kind e in
    at_path (times paths) (distinct_paths paths) limit path kind
    (subst (λ (t : Table). Refuses kind (is_some (place_of t.rows path)) (length t.rows == t.limit) (has_too_many_numbers t path)) (same taken.table rows stays) by)
  where
    made : ℕ → List Counted → Table
    made most rows = record { limit = most; rows = rows }

    same : (t : Table) → t.rows ≡ counted paths → t.limit ≡ limit → t ≡ record { limit = limit; rows = counted paths }
    same t r l = ap (made t.limit) r ∙ ap (λ n. made n (counted paths)) l

-- ---- all routes

walk : (sets : Sets) (before : List Route) (old : Taken) (kind : LimitKind) (first rest : List Route) (mid : Taken) → IsTakenOf sets before old → Takes sets old first mid
    → mid.table.limit ≡ old.table.limit → take_routes sets mid rest ≡ Err kind → StopsAtLimit sets before (first ++ rest) old kind
unfolding take_routes
walk sets before old kind first [] mid so_far takes stays e = absurd cc
walk sets before old kind first (route ∷ rest) mid so_far takes stays e =
    by (clean_of sets route.width route.attrs) refl (take_route sets mid route) refl e (λ new. walk sets before old kind (first ++ route ∷ []) rest new so_far)
  where
    by : (one : Cleaned) → clean_of sets route.width route.attrs ≡ one → (taking : Result Taken LimitKind) → take_cleaned mid one ≡ taking
        → (taking >>= λ further. take_routes sets further rest) ≡ Err kind
        → ((new : Taken) → Takes sets old (first ++ route ∷ []) new → new.table.limit ≡ old.table.limit → take_routes sets new rest ≡ Err kind
        → StopsAtLimit sets before ((first ++ route ∷ []) ++ rest) old kind)
        → StopsAtLimit sets before (first ++ route ∷ rest) old kind
    by one is (Ok new) made e ih =
        subst (λ (t : List Route). StopsAtLimit sets before t old kind) (append_assoc first (route ∷ []) rest)
        (ih new (takes_one_more sets old mid new first route takes (ap (take_cleaned mid) is ∙ made)) (same_limit mid new one made ∙ stays) e)
    by (Aside found) is (Err k) made e ih = absurd cc
    by (Path path) is (Err k) made e ih =
        let at = stopped (cleaned_paths sets (before ++ first)) mid old.table.limit path kind (further sets before first old mid so_far takes).rows stays
        (made ∙ ap (λ (t : LimitKind). Err t) (same_kind k kind e)) in
        record {
          first = first;
          route = route;
          rest = rest;
          parts = refl;
          mid = mid;
          takes = takes;
          path = path;
          cleans = is;
          is_new = at.is_new;
          passes = at.passes;
        }

pub refused : LimitLaw
refused sets before routes old kind so_far e = walk sets before old kind [] routes old so_far (no_entry sets old) refl e
