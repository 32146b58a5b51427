-- A table of paths with their times, when a path is added.
use Rattle.std.proofs.Common.{◌≡◌, ◌≢◌, ℕ, zero, suc, ◌+◌, ◌^◌, ◌<◌, ◌≤◌, Bool, true, false, not, cond, Option, IfSome, ◌&&◌, ◌||◌, leb, List, [], ◌∷◌, ◌++◌, length, get_or, set, slice_get, Some}
use Rattle.std.proofs.Common.{None, option_map, bytes_eq, All, refl, sym, ap, ap₂, ◌∙◌, arith, length-append}
use Rattle.std.specs.Prelude.{sum_by, nat_le, IfNone}
use Rattle.std.specs.List.{list_any, list_all}
use Rattle.std.proofs.lemmas.Bool.{both_ways, le-leb, leb-true, and_parts}
use Rattle.std.proofs.lemmas.Slice.Eq.{bytes_eq-Decides}
use Rattle.std.proofs.lemmas.List.{length-set}
use Rattle.std.proofs.lemmas.List.Elements.{All-cons, All-nil, All-head, All-tail}
use Rattle.std.proofs.lemmas.List.Folds.{list_all-append}
use Rattle.std.proofs.lemmas.List.Sums.{sum_by-append, sum_by-cons}
use Rattle.tor_arena.specs.Growth.{one_more}
use Rattle.path_clean.specs.Paths.{is_cleaned}
use Rattle.path_table.specs.Chains.{row_at}
use Rattle.path_table.specs.Rows.{Counted, Table, row_paths, times_of, numbers_in, none_twice}
use Rattle.path_table.specs.Inside.{counted_by, IsTable}
use Rattle.path_table.specs.Table.{place_of, with_path}

pub eq_true : (x y : List ℕ) → bytes_eq x y ≡ true → x ≡ y
eq_true x y e = (bytes_eq-Decides x y).0 e

pub eq_self : (x y : List ℕ) → x ≡ y → bytes_eq x y ≡ true
eq_self x y e = (bytes_eq-Decides x y).1 e

-- the table's rows, as paths and as times

pub length-counted_by : (paths : List (List ℕ)) (times : List ℕ) → length times ≡ length paths → length (counted_by paths times) ≡ length paths
length-counted_by [] times same = refl
length-counted_by (p ∷ ps) [] same = absurd (omega arith)
length-counted_by (p ∷ ps) (n ∷ ns) same = ap suc (length-counted_by ps ns (omega arith))

pub paths_of-counted_by : (paths : List (List ℕ)) (times : List ℕ) → length times ≡ length paths → row_paths (counted_by paths times) ≡ paths
paths_of-counted_by [] times same = refl
paths_of-counted_by (p ∷ ps) [] same = absurd (omega arith)
paths_of-counted_by (p ∷ ps) (n ∷ ns) same = ap (λ (t : List (List ℕ)). p ∷ t) (paths_of-counted_by ps ns (omega arith))

pub times_of-counted_by : (paths : List (List ℕ)) (times : List ℕ) → length times ≡ length paths → times_of (counted_by paths times) ≡ times
times_of-counted_by [] [] same = refl
times_of-counted_by [] (n ∷ ns) same = absurd (omega (arith, same))
times_of-counted_by (p ∷ ps) [] same = absurd (omega (arith, same))
times_of-counted_by (p ∷ ps) (n ∷ ns) same = ap (λ (t : List ℕ). n ∷ t) (times_of-counted_by ps ns (omega (arith, same)))

pub numbers_in-counted_by : (paths : List (List ℕ)) (times : List ℕ) → length times ≡ length paths → numbers_in (counted_by paths times) ≡ sum_by length paths
numbers_in-counted_by [] times same = refl
numbers_in-counted_by (p ∷ ps) [] same = absurd (omega arith)
numbers_in-counted_by (p ∷ ps) (n ∷ ns) same =
    sum_by-cons (λ row. length row.path) (record { path = p; times = n }) (counted_by ps ns) ∙ ap (λ k. length p + k) (numbers_in-counted_by ps ns (omega arith)) ∙ sym (sum_by-cons length p ps)

pub times-counted_by : (paths : List (List ℕ)) (times : List ℕ) (k : ℕ) → length times ≡ length paths → k < length paths
    → option_map (λ row. row.times) (slice_get (counted_by paths times) k) ≡ Some (get_or times k 0)
times-counted_by [] times k same lt = absurd (omega arith)
times-counted_by (p ∷ ps) [] k same lt = absurd (omega arith)
times-counted_by (p ∷ ps) (n ∷ ns) zero same lt = refl
times-counted_by (p ∷ ps) (n ∷ ns) (suc k) same lt = times-counted_by ps ns k (omega arith) (omega arith)

pub some-at : (times : List ℕ) (k : ℕ) → list_all (nat_le 1) times ≡ true → k < length times → 1 ≤ get_or times k 0
some-at [] k all lt = absurd (omega arith)
some-at (n ∷ ns) zero all lt = leb-true 1 n (and_parts (leb 1 n) (list_all (nat_le 1) ns) all).0
some-at (n ∷ ns) (suc k) all lt = some-at ns k (and_parts (leb 1 n) (list_all (nat_le 1) ns) all).1 (omega arith)

pub all_some : (times : List ℕ) → list_all (nat_le 1) times ≡ true → All (λ n. 1 ≤ n) times
all_some [] all = All-nil (λ n. 1 ≤ n)
all_some (n ∷ ns) all =
    let parts = and_parts (leb 1 n) (list_all (nat_le 1) ns) all in
    All-cons (λ n. 1 ≤ n) n ns (leb-true 1 n parts.0) (all_some ns parts.1)

pub some_all : (times : List ℕ) → All (λ n. 1 ≤ n) times → list_all (nat_le 1) times ≡ true
some_all [] all = refl
some_all (n ∷ ns) all =
    ap₂ (λ a b. a && b) (le-leb 1 n (All-head (λ n. 1 ≤ n) n ns all)) (some_all ns (All-tail (λ n. 1 ≤ n) n ns all))

-- a path that is there

abbrev pub again : List ℕ → ℕ → List ℕ
again times k = set times k (one_more (get_or times k 0))

any-at : (paths : List (List ℕ)) (p : List ℕ) (k : ℕ) → k < length paths → row_at paths k ≡ p → list_any (λ other. bytes_eq other p) paths ≡ true
any-at [] p k lt is = absurd (omega arith)
any-at (x ∷ xs) p zero lt is = ap (λ b. b || list_any (λ other. bytes_eq other p) xs) (eq_self x p is)
any-at (x ∷ xs) p (suc k) lt is = by (bytes_eq x p) (any-at xs p k (omega arith) is)
  where
    by : (b : Bool) → list_any (λ other. bytes_eq other p) xs ≡ true → (b || list_any (λ other. bytes_eq other p) xs) ≡ true
    by true ih = refl
    by false ih = ih

pub none-any : (paths : List (List ℕ)) (p : List ℕ) → ((k : ℕ) → k < length paths → row_at paths k ≢ p) → list_any (λ other. bytes_eq other p) paths ≡ false
none-any [] p none = refl
none-any (x ∷ xs) p none = by (bytes_eq x p) refl (none-any xs p (λ k lt. none (suc k) (omega arith)))
  where
    by : (b : Bool) → bytes_eq x p ≡ b → list_any (λ other. bytes_eq other p) xs ≡ false → (b || list_any (λ other. bytes_eq other p) xs) ≡ false
    by true e ih = absurd (none 0 (omega arith) (eq_true x p e))
    by false e ih = ih

-- the parts of a list in which no path stands twice
once-parts : (x : List ℕ) (xs : List (List ℕ)) → none_twice (x ∷ xs) ≡ true → (list_any (λ other. bytes_eq other x) xs ≡ false) × (none_twice xs ≡ true)
once-parts x xs h = by (list_any (λ other. bytes_eq other x) xs) refl h
  where
    by : (b : Bool) → list_any (λ other. bytes_eq other x) xs ≡ b → (not b && none_twice xs) ≡ true → (list_any (λ other. bytes_eq other x) xs ≡ false) × (none_twice xs ≡ true)
    by true e h = absurd cc
    by false e h = (e, h)

pub record IsAgain (paths : List (List ℕ)) (times path : List ℕ) (k : ℕ) : Type 0 where
  pub place : place_of (counted_by paths times) path ≡ Some k
  pub rows : counted_by paths (again times k) ≡ with_path (counted_by paths times) path

pub again-at : (paths : List (List ℕ)) (times path : List ℕ) (k : ℕ) → length times ≡ length paths → none_twice paths ≡ true → k < length paths → row_at paths k ≡ path
    → IsAgain paths times path k
again-at [] times path k same once lt is = absurd (omega arith)
again-at (x ∷ xs) [] path k same once lt is = absurd (omega arith)
again-at (x ∷ xs) (n ∷ ns) path zero same once lt is =
    let e = eq_self x path is in record {
      place = ap (λ b. cond b (Some 0) (option_map suc (place_of (counted_by xs ns) path))) e;
      rows = sym (ap (λ b. cond b (record { path = x; times = one_more n } ∷ counted_by xs ns) (record { path = x; times = n } ∷ with_path (counted_by xs ns) path)) e);
    }
again-at (x ∷ xs) (n ∷ ns) path (suc k) same once lt is =
    let parts = once-parts x xs once in
    by (again-at xs ns path k (omega arith) parts.1 (omega arith) is) (bytes_eq x path) refl parts.0
  where
    by : IsAgain xs ns path k → (b : Bool) → bytes_eq x path ≡ b → list_any (λ other. bytes_eq other x) xs ≡ false → IsAgain (x ∷ xs) (n ∷ ns) path (suc k)
    by ih true e none = absurd (both_ways (list_any (λ other. bytes_eq other x) xs) none (any-at xs x k (omega arith) (is ∙ sym (eq_true x path e))))
    by ih false e none = record {
      place = ap (λ b. cond b (Some 0) (option_map suc (place_of (counted_by xs ns) path))) e ∙ ap (option_map suc) ih.place;
      rows = ap (λ (t : List Counted). record { path = x; times = n } ∷ t) ih.rows
          ∙ sym (ap (λ b. cond b (record { path = x; times = one_more n } ∷ counted_by xs ns) (record { path = x; times = n } ∷ with_path (counted_by xs ns) path)) e);
    }

some-again : (times : List ℕ) (k : ℕ) → list_all (nat_le 1) times ≡ true → list_all (nat_le 1) (again times k) ≡ true
some-again [] k all = refl
some-again (n ∷ ns) zero all =
    let parts = and_parts (leb 1 n) (list_all (nat_le 1) ns) all in
    let most : 1 ≤ one_more n = omega arith in
    ap₂ (λ a b. a && b) (le-leb 1 (one_more n) most) parts.1
some-again (n ∷ ns) (suc k) all =
    let parts = and_parts (leb 1 n) (list_all (nat_le 1) ns) all in
    ap₂ (λ a b. a && b) parts.0 (some-again ns k parts.1)

pub IsTable-again : (limit numbers : ℕ) (paths : List (List ℕ)) (times : List ℕ) (k : ℕ) → IsTable limit numbers paths times → IsTable limit numbers paths (again times k)
IsTable-again limit numbers paths times k t = record {
  bound = t.bound;
  few = t.few;
  same = length-set times k (one_more (get_or times k 0)) ∙ t.same;
  sum = t.sum;
  short = t.short;
  clean = t.clean;
  once = t.once;
  some = some-again times k t.some;
}

-- the row of the place where a path stands is that path
pub record IsThere (paths : List (List ℕ)) (path : List ℕ) (k : ℕ) : Type 0 where
  pub within : k < length paths
  pub row : row_at paths k ≡ path

pub there-at : (paths : List (List ℕ)) (times path : List ℕ) (k : ℕ) → length times ≡ length paths → place_of (counted_by paths times) path ≡ Some k → IsThere paths path k
there-at [] times path k same is = absurd cc
there-at (x ∷ xs) [] path k same is = absurd (omega (arith, same))
there-at (x ∷ xs) (n ∷ ns) path k same is = by (bytes_eq x path) refl (place_of (counted_by xs ns) path) k is (λ j. there-at xs ns path j (omega (arith, same)))
  where
    by : (b : Bool) → bytes_eq x path ≡ b → (o : Option ℕ) → (k : ℕ) → cond b (Some 0) (option_map suc o) ≡ Some k
        → ((j : ℕ) → o ≡ Some j → IsThere xs path j) → IsThere (x ∷ xs) path k
    by true e o zero is ih = record { within = omega arith; row = eq_true x path e }
    by true e o (suc j) is ih = absurd cc
    by false e None k is ih = absurd cc
    by false e (Some j) zero is ih = absurd cc
    by false e (Some j) (suc k) is ih = let same : j ≡ k = cc in let one = ih k (ap (λ n. Some n) same) in record { within = let lt = one.within in omega (arith, lt); row = one.row }

-- a path that has a place stands among the rows
pub found-within : (rows : List Counted) (path : List ℕ) (k : ℕ) → place_of rows path ≡ Some k → k < length rows
found-within [] path k is = absurd cc
found-within (row ∷ others) path k is = by (bytes_eq row.path path) (place_of others path) k is (λ j. found-within others path j)
  where
    by : (b : Bool) (o : Option ℕ) (k : ℕ) → cond b (Some 0) (option_map suc o) ≡ Some k → ((j : ℕ) → o ≡ Some j → j < length others) → k < suc (length others)
    by true o zero is ih = omega arith
    by true o (suc k) is ih = absurd cc
    by false None k is ih = absurd cc
    by false (Some j) zero is ih = absurd cc
    by false (Some j) (suc k) is ih = let same : j ≡ k = cc in let one = ih k (ap (λ n. Some n) same) in omega (arith, one)

-- a path that is new

pub last-at : (paths : List (List ℕ)) (times path : List ℕ) → length times ≡ length paths → list_any (λ other. bytes_eq other path) paths ≡ false → place_of (counted_by paths times) path ≡ None
last-at [] times path same none = refl
last-at (x ∷ xs) [] path same none = absurd (omega (arith, same))
last-at (x ∷ xs) (n ∷ ns) path same none = by (λ h. last-at xs ns path (omega (arith, same)) h) (bytes_eq x path) refl none
  where
    by : (list_any (λ other. bytes_eq other path) xs ≡ false → place_of (counted_by xs ns) path ≡ None) → (b : Bool) → bytes_eq x path ≡ b → (b || list_any (λ other. bytes_eq other path) xs) ≡ false
        → place_of (counted_by (x ∷ xs) (n ∷ ns)) path ≡ None
    by ih true e h = absurd cc
    by ih false e h = ap (λ b. cond b (Some 0) (option_map suc (place_of (counted_by xs ns) path))) e ∙ ap (option_map suc) (ih h)

-- a path with its times at the end
pub counted_by-push : (paths : List (List ℕ)) (times path : List ℕ) (n : ℕ) → length times ≡ length paths
    → counted_by (paths ++ path ∷ []) (times ++ n ∷ []) ≡ counted_by paths times ++ record { path = path; times = n } ∷ []
counted_by-push [] [] path n same = refl
counted_by-push [] (m ∷ ms) path n same = absurd (omega (arith, same))
counted_by-push (x ∷ xs) [] path n same = absurd (omega (arith, same))
counted_by-push (x ∷ xs) (m ∷ ms) path n same = ap (λ (t : List Counted). record { path = x; times = m } ∷ t) (counted_by-push xs ms path n (omega (arith, same)))

-- a path that has no place is counted once, at the end
pub with_path-new : (rows : List Counted) (path : List ℕ) → place_of rows path ≡ None → with_path rows path ≡ rows ++ record { path = path; times = 1 } ∷ []
with_path-new [] path none = refl
with_path-new (row ∷ rows) path none = by (bytes_eq row.path path) refl (place_of rows path) none (with_path-new rows path)
  where
    by : (b : Bool) → bytes_eq row.path path ≡ b → (o : Option ℕ) → cond b (Some 0) (option_map suc o) ≡ None
        → (o ≡ None → with_path rows path ≡ rows ++ record { path = path; times = 1 } ∷ []) → with_path (row ∷ rows) path ≡ row ∷ (rows ++ record { path = path; times = 1 } ∷ [])
    by true e o is ih = absurd cc
    by false e None is ih = ap (λ b. cond b (record { path = row.path; times = one_more row.times } ∷ rows) (row ∷ with_path rows path)) e ∙ ap (λ (t : List Counted). row ∷ t) (ih refl)
    by false e (Some k) is ih = absurd cc

-- what was found is where the path stands
pub found-at : (paths : List (List ℕ)) (times path : List ℕ) (found : Option ℕ) → length times ≡ length paths → none_twice paths ≡ true
    → IfSome found (λ k. (k < length paths) × (row_at paths k ≡ path)) → IfNone found ((k : ℕ) → k < length paths → row_at paths k ≢ path)
    → found ≡ place_of (counted_by paths times) path
found-at paths times path (Some k) same once is absent = sym (again-at paths times path k same once is.0 is.1).place
found-at paths times path None same once is absent = sym (last-at paths times path same (none-any paths path absent))

-- a path that has no place is none of the paths
pub absent-at : (paths : List (List ℕ)) (times path : List ℕ) → length times ≡ length paths → place_of (counted_by paths times) path ≡ None
    → list_any (λ other. bytes_eq other path) paths ≡ false
absent-at [] times path same is = refl
absent-at (x ∷ xs) [] path same is = absurd (omega (arith, same))
absent-at (x ∷ xs) (n ∷ ns) path same is = by (bytes_eq x path) (place_of (counted_by xs ns) path) is (absent-at xs ns path (omega (arith, same)))
  where
    by : (b : Bool) (o : Option ℕ) → cond b (Some 0) (option_map suc o) ≡ None → (o ≡ None → list_any (λ other. bytes_eq other path) xs ≡ false)
        → (b || list_any (λ other. bytes_eq other path) xs) ≡ false
    by true o is ih = absurd cc
    by false None is ih = ih refl
    by false (Some k) is ih = absurd cc

any-append : (paths : List (List ℕ)) (p x : List ℕ) → list_any (λ other. bytes_eq other x) (paths ++ p ∷ []) ≡ (list_any (λ other. bytes_eq other x) paths || bytes_eq p x)
any-append [] p x = or-false (bytes_eq p x)
  where
    or-false : (b : Bool) → (b || false) ≡ b
    or-false true = refl
    or-false false = refl
any-append (y ∷ ys) p x = by (bytes_eq y x) (any-append ys p x)
  where
    by : (b : Bool) → list_any (λ other. bytes_eq other x) (ys ++ p ∷ []) ≡ (list_any (λ other. bytes_eq other x) ys || bytes_eq p x)
        → (b || list_any (λ other. bytes_eq other x) (ys ++ p ∷ [])) ≡ ((b || list_any (λ other. bytes_eq other x) ys) || bytes_eq p x)
    by true ih = refl
    by false ih = ih

once-push : (paths : List (List ℕ)) (p : List ℕ) → none_twice paths ≡ true → list_any (λ other. bytes_eq other p) paths ≡ false → none_twice (paths ++ p ∷ []) ≡ true
once-push [] p once none = refl
once-push (x ∷ xs) p once none =
    let parts = once-parts x xs once in by (λ h. once-push xs p parts.1 h) (bytes_eq x p) (bytes_eq p x) refl refl parts.0 none
  where
    by : (list_any (λ other. bytes_eq other p) xs ≡ false → none_twice (xs ++ p ∷ []) ≡ true) → (b c : Bool) → bytes_eq x p ≡ b → bytes_eq p x ≡ c
        → list_any (λ other. bytes_eq other x) xs ≡ false → (b || list_any (λ other. bytes_eq other p) xs) ≡ false → none_twice (x ∷ (xs ++ p ∷ [])) ≡ true
    by ih true c e f first h = absurd cc
    by ih false true e f first h = absurd (both_ways (bytes_eq x p) e (eq_self x p (sym (eq_true p x f))))
    by ih false false e f first h = ap₂ (λ a b. not a && b) (any-append xs p x ∙ ap₂ (λ a b. a || b) first f) (ih h)

pub IsTable-push : (limit numbers : ℕ) (paths : List (List ℕ)) (times path : List ℕ) (n : ℕ) → IsTable limit numbers paths times → length paths < limit → numbers + length path ≤ 2 ^ 26
    → is_cleaned path ≡ true → 1 ≤ n → list_any (λ other. bytes_eq other path) paths ≡ false → IsTable limit (numbers + length path) (paths ++ path ∷ []) (times ++ n ∷ [])
IsTable-push limit numbers paths times path n t room short clean seen none =
    let more = length-append paths (path ∷ []) in
    let many = length-append times (n ∷ []) in
    let same = t.same in record {
      bound = t.bound;
      few = omega (arith, more, room);
      same = omega (arith, more, many, same);
      sum = ap (λ n. n + length path) t.sum ∙ sym (sum_by-append length paths (path ∷ []) ∙ ap (λ n. sum_by length paths + n) (sum_by-cons length path [] ∙ omega arith));
      short = short;
      clean = list_all-append is_cleaned paths (path ∷ []) ∙ ap₂ (λ a b. a && (b && true)) t.clean clean;
      once = once-push paths path t.once none;
      some = list_all-append (nat_le 1) times (n ∷ []) ∙ ap₂ (λ a b. a && (b && true)) t.some (le-leb 1 n seen);
    }

-- how many rows, numbers and rows at most a table is seen to have, beside what it holds
pub record IsSeen (limit numbers many : ℕ) (table : Table) : Type 0 where
  pub rows : length table.rows ≡ many
  pub sum : numbers_in table.rows ≡ numbers
  pub limit_is : table.limit ≡ limit
  pub few : many ≤ limit
  pub short : numbers ≤ 2 ^ 26

pub seen_as : (limit numbers : ℕ) (paths : List (List ℕ)) (times : List ℕ) (table : Table) → IsTable limit numbers paths times
    → record { limit = limit; rows = counted_by paths times } ≡ table → IsSeen limit numbers (length times) table
seen_as limit numbers paths times table inside is = record {
  rows = ap (λ (t : Table). length t.rows) (sym is) ∙ length-counted_by paths times inside.same ∙ sym inside.same;
  sum = ap (λ (t : Table). numbers_in t.rows) (sym is) ∙ numbers_in-counted_by paths times inside.same ∙ sym inside.sum;
  limit_is = ap (λ (t : Table). t.limit) (sym is);
  few = let few = inside.few in let same = inside.same in omega (arith, few, same);
  short = inside.short;
}
