-- The paths that are still to come, a length at a time.
use Rattle.std.proofs.Common.{◌≡◌, ℕ, zero, suc, ◌+◌, ◌-◌, ◌≤◌, ◌<◌, ◌==◌, ◌≢◌, Bool, not, true, false, true≢false, List, [], ◌∷◌, ◌++◌, length, get_or, slice_index, map, take}
use Rattle.std.proofs.Common.{drop, All, sum_by, ◌⊎◌, inl, inr, IsPermutation, IsSorted, refl, sym, ap, ap₂, ◌∙◌, subst, arith, is_lt, Less}
use Rattle.std.specs.List.{filter}
use Rattle.std.specs.Ordering.{nat_cmp, ordering_then}
use Rattle.std.specs.Cmp.{nat_cmp_is}
use Rattle.std.specs.Cmp.Lexicographic.{slice_cmp}
use Rattle.std.proofs.lemmas.Bool.{eqb-true, eq-eqb}
use Rattle.std.proofs.lemmas.List.{append-nil, map-append, take-map}
use Rattle.std.proofs.lemmas.List.Sums.{sum_by-append, sum_by-cons}
use Rattle.std.proofs.lemmas.List.Elements.{All-nil, All-append, All-cons, All-head, All-tail, All-map, All-weaker, All-filter, filter_passes}
use Rattle.std.proofs.lemmas.List.Sorted.{IsPermutation-trans, IsPermutation-map, IsPermutation-append, IsPermutation-filter_both, All-permutation}
use Rattle.path_table.specs.Chains.{row_at}
use Rattle.path_table.specs.Rows.{Counted, row_paths, times_of, none_twice}
use Rattle.path_table.specs.Inside.{counted_by}
use Rattle.path_table.proofs.TableLemmas.{paths_of-counted_by, times_of-counted_by}
use Rattle.path_order.specs.declared.entries.Entry.{Entry}
use Rattle.path_order.specs.declared.choice.Order.TheVariants.{Short}
use Rattle.path_order.specs.Orders.{path_cmp, comes_before, shortest_first, ordered_behind, Rise}
use Rattle.path_order.specs.Laws.{AreDistinct}
use Rattle.path_order.specs.Entries.{entry_cmp, IsOf, row_places, is_sized, sized, unsized, entries_at, places_of, rows_at, times_at, counted_at, paths_left, times_left, AreToCome}
use Rattle.path_order.proofs.RiseLemmas.{is_of, many, Few, few_distinct, few_drop, few_moved, shortest_moves, shortest_rises, only}
use Rattle.path_order.proofs.NotedLemmas.{at, named, sorted_rows, row_is, places_are}
use Rattle.path_order.proofs.KeptLemmas.{distinct_few}

-- the paths of the least length come before the others

abbrev Before : Counted → Counted → Type 0
Before row other = comes_before row other ≡ true

rise_both : (xs ys : List Counted) → Rise xs → Rise ys → All (λ row. All (Before row) ys) xs → Rise (xs ++ ys)
rise_both [] ys rx ry first = ry
rise_both (x ∷ xs) ys rx ry first = (
  All-append (Before x) xs ys rx.0 (All-head (λ row. All (Before row) ys) x xs first),
  rise_both xs ys rx.1 ry (All-tail (λ row. All (Before row) ys) x xs first),
)

few_both : (xs ys : List Counted) → Few (xs ++ ys) → Few xs × Few ys
few_both xs ys few =
    let sum : (path : List ℕ) → many path (xs ++ ys) ≡ many path xs + many path ys = λ path. sum_by-append (is_of path) xs ys in (
      record { at = λ path. let all = few.at path in let is = sum path in omega (arith, all, is) },
      record { at = λ path. let all = few.at path in let is = sum path in omega (arith, all, is) },
    )

shorter_first : (a b : List ℕ) → length a < length b → is_lt (path_cmp a b) ≡ true
shorter_first a b less = ap (λ o. is_lt (ordering_then o (slice_cmp nat_cmp a b))) (sym (nat_cmp_is (length a) (length b) Less less))

abbrev IsLong : ℕ → Counted → Type 0
IsLong size row = size ≤ length row.path

abbrev HasSize : ℕ → Counted → Type 0
HasSize size row = length row.path ≡ size

by_sizes : (size : ℕ) (xs ys : List Counted) → All (HasSize size) xs → All (IsLong (size + 1)) ys → All (λ row. All (Before row) ys) xs
by_sizes size xs ys short long =
    All-weaker (HasSize size) (λ row. All (Before row) ys)
    (λ row is. All-weaker (IsLong (size + 1)) (Before row) (λ other more. shorter_first row.path other.path (omega (arith, is, more))) ys long) xs short

-- sorted by lengths first: those of the least one, and then the others
one_size : (size : ℕ) (all xs ys : List Counted) → Few all → IsPermutation all (xs ++ ys) → All (HasSize size) xs → All (IsLong (size + 1)) ys
    → shortest_first xs ++ shortest_first ys ≡ shortest_first all
one_size size all xs ys few moved short long =
    let both = few_both xs ys (few_moved all (xs ++ ys) moved few) in
    let sx = shortest_first xs in
    let sy = shortest_first ys in
    let short' : All (HasSize size) sx = All-permutation (HasSize size) xs sx (shortest_moves xs) short in
    let long' : All (IsLong (size + 1)) sy = All-permutation (IsLong (size + 1)) ys sy (shortest_moves ys) long in
    let moved' : IsPermutation (xs ++ ys) (sx ++ sy) = IsPermutation-append xs sx ys sy (shortest_moves xs) (shortest_moves ys) in
    only all (sx ++ sy) few (IsPermutation-trans _ _ _ moved moved')
    (rise_both sx sy (shortest_rises xs both.0) (shortest_rises ys both.1) (by_sizes size sx sy short' long'))

-- one length less is left

more_than : (n size : ℕ) → not (n == size) ≡ true → size ≤ n → size + 1 ≤ n
more_than n size other least =
    let apart : n ≢ size = λ is. true≢false (sym other ∙ ap not (eq-eqb n size is)) in
    omega (arith, apart, least)

all_longer : (rows : List (List ℕ)) (size : ℕ) (places : List ℕ) → All (λ place. size ≤ length (row_at rows place)) places
    → All (λ place. size + 1 ≤ length (row_at rows place)) (unsized rows size places)
all_longer rows size places long k d less =
    let place = get_or (unsized rows size places) k d in
    more_than (length (row_at rows place)) size (filter_passes (λ p. not (is_sized rows size p)) places k d less)
    (All-filter (λ p. not (is_sized rows size p)) (λ p. size ≤ length (row_at rows p)) places long k d less)

parted : (rows : List (List ℕ)) (times : List ℕ) (size : ℕ) (places : List ℕ)
    → IsPermutation (counted_at rows times places) (counted_at rows times (sized rows size places) ++ counted_at rows times (unsized rows size places))
parted rows times size places =
    subst (λ (rs : List Counted). IsPermutation (counted_at rows times places) rs) (map-append (at rows times) (sized rows size places) (unsized rows size places))
    (IsPermutation-map (at rows times) places (sized rows size places ++ unsized rows size places)
    (IsPermutation-filter_both (is_sized rows size) (λ p. not (is_sized rows size p)) (λ p. refl) places))

all_sized : (rows : List (List ℕ)) (times : List ℕ) (size : ℕ) (places : List ℕ) → All (HasSize size) (counted_at rows times (sized rows size places))
all_sized rows times size places =
    All-map (HasSize size) (at rows times) (sized rows size places)
    (All-weaker (λ p. is_sized rows size p ≡ true) (λ p. length (row_at rows p) ≡ size) (λ p is. eqb-true (length (row_at rows p)) size is)
    (sized rows size places) (filter_passes (is_sized rows size) places))

paths_named : (rows : List (List ℕ)) (times : List ℕ) (es : List Entry) → rows_at rows (places_of es) ≡ row_paths (map (named rows times) es)
paths_named rows times [] = refl
paths_named rows times (e ∷ es) = ap (λ (ps : List (List ℕ)). row_at rows e.place ∷ ps) (paths_named rows times es)

times_named : (rows : List (List ℕ)) (times : List ℕ) (es : List Entry) → times_at times (places_of es) ≡ times_of (map (named rows times) es)
times_named rows times [] = refl
times_named rows times (e ∷ es) = ap (λ (ns : List ℕ). slice_index times e.place ∷ ns) (times_named rows times es)

pub record AreTaken (rows : List (List ℕ)) (times : List ℕ) (size : ℕ) (places : List ℕ) (es : List Entry) : Type 0 where
  pub left : AreToCome rows times (size + 1) (unsized rows size places)
  pub paths_are : rows_at rows (places_of es) ++ paths_left rows times (unsized rows size places) ≡ paths_left rows times places
  pub times_are : times_at times (places_of es) ++ times_left rows times (unsized rows size places) ≡ times_left rows times places

pub one_taken : (rows : List (List ℕ)) (times : List ℕ) (size : ℕ) (places : List ℕ) (es : List Entry) → AreToCome rows times size places
    → IsPermutation (entries_at rows (sized rows size places)) es → IsSorted (entry_cmp rows) es → AreTaken rows times size places es
one_taken rows times size places es left moved sorted =
    let all : List Counted = counted_at rows times places in
    let xs : List Counted = counted_at rows times (sized rows size places) in
    let ys : List Counted = counted_at rows times (unsized rows size places) in
    let few : Few all = few_distinct all left.once in
    let both : Few xs × Few ys = few_both xs ys (few_moved all (xs ++ ys) (parted rows times size places) few) in
    let longer = all_longer rows size places left.long in
    let longs : All (IsLong (size + 1)) ys = All-map (IsLong (size + 1)) (at rows times) (unsized rows size places) longer in
    let whole : shortest_first xs ++ shortest_first ys ≡ shortest_first all =
    one_size size all xs ys few (parted rows times size places) (all_sized rows times size places) longs in
    let first : map (named rows times) es ≡ shortest_first xs = sorted_rows rows times size places es both.0 moved sorted in
    record {
      left = record { once = distinct_few ys both.1; long = longer };
      paths_are =
          ap (λ (ps : List (List ℕ)). ps ++ row_paths (shortest_first ys)) (paths_named rows times es ∙ ap row_paths first)
          ∙ sym (map-append (λ (row : Counted). row.path) (shortest_first xs) (shortest_first ys)) ∙ ap row_paths whole;
      times_are =
          ap (λ (ns : List ℕ). ns ++ times_of (shortest_first ys)) (times_named rows times es ∙ ap times_of first)
          ∙ sym (map-append (λ (row : Counted). row.times) (shortest_first xs) (shortest_first ys)) ∙ ap times_of whole;
    }

-- before the first, and behind the last

each_from : (P : List ℕ → Type 0) (rows : List (List ℕ)) (start n : ℕ) → start + n ≤ length rows → All P rows → All (λ place. P (row_at rows place)) (row_places start n)
each_from P rows start zero inside all = All-nil (λ place. P (row_at rows place))
each_from P rows start (suc n) inside all =
    All-append (λ place. P (row_at rows place)) (row_places start n) ((start + n) ∷ []) (each_from P rows start n (omega (arith, inside)) all)
    (All-cons (λ place. P (row_at rows place)) (start + n) [] (subst P (sym (row_is rows (start + n))) (all (start + n) [] (omega (arith, inside))))
    (All-nil (λ place. P (row_at rows place))))

pub all_left : (kept : ℕ) (rows : List (List ℕ)) (times : List ℕ) → length times ≡ length rows → kept ≤ length rows → none_twice rows ≡ true
    → All (λ path. 2 ≤ length path) rows → AreToCome rows times 2 (row_places kept (length rows - kept))
all_left kept rows times same inside once several =
    let all : List Counted = counted_by rows times in
    let paths_is : row_paths all ≡ rows = paths_of-counted_by rows times same in
    let few : Few (drop kept all) = few_drop kept all (few_distinct all (ap none_twice paths_is ∙ once)) in
    record {
      once = subst AreDistinct (sym (places_are kept rows times same inside)) (distinct_few (drop kept all) few);
      long = each_from (λ path. 2 ≤ length path) rows kept (length rows - kept) (omega (arith, inside)) several;
    }

pub none_left : (rows : List (List ℕ)) (size longest : ℕ) (places : List ℕ) → All (λ place. size ≤ length (row_at rows place)) places
    → ((place : ℕ) → length (row_at rows place) ≤ longest) → longest + 1 ≤ size → places ≡ []
none_left rows size longest [] long most behind = refl
none_left rows size longest (place ∷ places) long most behind =
    let least : size ≤ length (row_at rows place) = All-head (λ p. size ≤ length (row_at rows p)) place places long in
    let greatest = most place in
    absurd (omega (arith, least, greatest, behind))

-- no path has more numbers than all in sum
pub row_short : (rows : List (List ℕ)) (k : ℕ) → length (row_at rows k) ≤ sum_by length rows
row_short [] k = omega (arith)
row_short (row ∷ rows) zero =
    let all : sum_by length (row ∷ rows) ≡ length row + sum_by length rows = sum_by-cons length row rows in
    omega (arith, all)
row_short (row ∷ rows) (suc k) =
    let all : sum_by length (row ∷ rows) ≡ length row + sum_by length rows = sum_by-cons length row rows in
    let rest = row_short rows k in
    omega (arith, all, rest)

below_or_behind : (k n : ℕ) → (k < n) ⊎ (n ≤ k)
below_or_behind k zero = inr (omega arith)
below_or_behind zero (suc n) = inl (omega arith)
below_or_behind (suc k) (suc n) = elim (below_or_behind k n) [
  | inl less ↦ inl (omega (arith, less))
  | inr behind ↦ inr (omega (arith, behind))
]

-- behind the last path there is none
row_none : (rows : List (List ℕ)) (k : ℕ) → length rows ≤ k → row_at rows k ≡ []
row_none [] k behind = refl
row_none (row ∷ rows) zero behind = absurd (omega (arith, behind))
row_none (row ∷ rows) (suc k) behind = row_none rows k (omega (arith, behind))

pub all_below : (rows : List (List ℕ)) (longest : ℕ) → ((k : ℕ) → k < length rows → length (row_at rows k) ≤ longest) → (k : ℕ) → length (row_at rows k) ≤ longest
all_below rows longest below k = elim (below_or_behind k (length rows)) [
  | inl less ↦ below k less
  | inr behind ↦ subst (λ (row : List ℕ). length row ≤ longest) (sym (row_none rows k behind)) (omega arith)
]

-- what all came to where none are left

pub all_taken : {X : Type 0} (rows : List (List ℕ)) (times : List ℕ) (size longest : ℕ) (places : List ℕ) (left : List ℕ → List X) (so_far all : List X) → left [] ≡ []
    → AreToCome rows times size places → ((place : ℕ) → length (row_at rows place) ≤ longest) → longest + 1 ≤ size → so_far ++ left places ≡ all → so_far ≡ all
all_taken rows times size longest places left so_far all ends are most behind is =
    sym (append-nil so_far) ∙ sym (ap (λ xs. so_far ++ xs) (ap left (none_left rows size longest places are.long most behind) ∙ ends)) ∙ is

-- the numbers of a short path, from what is noted of it

noted_path : (path : List ℕ) → length path ≤ 7
    → take (length path) (slice_index path 0 ∷ slice_index path 1 ∷ slice_index path 2 ∷ slice_index path 3 ∷ slice_index path 4 ∷ slice_index path 5 ∷ slice_index path 6 ∷ []) ≡ path
noted_path [] short = refl
noted_path (a ∷ []) short = refl
noted_path (a ∷ b ∷ []) short = refl
noted_path (a ∷ b ∷ c ∷ []) short = refl
noted_path (a ∷ b ∷ c ∷ d ∷ []) short = refl
noted_path (a ∷ b ∷ c ∷ d ∷ e ∷ []) short = refl
noted_path (a ∷ b ∷ c ∷ d ∷ e ∷ f ∷ []) short = refl
noted_path (a ∷ b ∷ c ∷ d ∷ e ∷ f ∷ g ∷ []) short = refl
noted_path (a ∷ b ∷ c ∷ d ∷ e ∷ f ∷ g ∷ h ∷ path) short = absurd (omega (arith, short))

pub entry_path : (rows : List (List ℕ)) (size : ℕ) (e : Entry) → IsOf rows size e → size ≤ 7
    → take size (e.first ∷ e.second ∷ e.third ∷ e.fourth ∷ e.fifth ∷ e.sixth ∷ e.seventh ∷ []) ≡ row_at rows e.place
entry_path rows size e of' short =
    ap (λ (x : Entry). take size (x.first ∷ x.second ∷ x.third ∷ x.fourth ∷ x.fifth ∷ x.sixth ∷ x.seventh ∷ [])) of'.0
    ∙ subst (λ n. take n (slice_index (row_at rows e.place) 0 ∷ slice_index (row_at rows e.place) 1 ∷ slice_index (row_at rows e.place) 2 ∷ slice_index (row_at rows e.place) 3
    ∷ slice_index (row_at rows e.place) 4 ∷ slice_index (row_at rows e.place) 5 ∷ slice_index (row_at rows e.place) 6 ∷ []) ≡ row_at rows e.place) of'.1
    (noted_path (row_at rows e.place) (subst (λ n. n ≤ 7) (sym of'.1) short))

-- the first paths, and those in these places behind them

pub record IsShortBehind (kept : ℕ) (rows : List (List ℕ)) (times : List ℕ) : Type 0 where
  pub paths_are : take kept rows ++ paths_left rows times (row_places kept (length rows - kept)) ≡ row_paths (ordered_behind Short kept (counted_by rows times))
  pub times_are : take kept times ++ times_left rows times (row_places kept (length rows - kept)) ≡ times_of (ordered_behind Short kept (counted_by rows times))

pub short_behind_kept : (kept : ℕ) (rows : List (List ℕ)) (times : List ℕ) → length times ≡ length rows → kept ≤ length rows → IsShortBehind kept rows times
short_behind_kept kept rows times same inside =
    let all : List Counted = counted_by rows times in
    let paths_is : row_paths all ≡ rows = paths_of-counted_by rows times same in
    let times_is : times_of all ≡ times = times_of-counted_by rows times same in
    let is = places_are kept rows times same inside in
    record {
      paths_are =
          ap₂ (λ (a b : List (List ℕ)). a ++ b)
          (sym (ap (λ (rs : List (List ℕ)). take kept rs) paths_is) ∙ take-map (λ row. row.path) kept all)
          (ap (λ (rs : List Counted). row_paths (shortest_first rs)) is)
          ∙ sym (map-append (λ row. row.path) (take kept all) (shortest_first (drop kept all)));
      times_are =
          ap₂ (λ (a b : List ℕ). a ++ b)
          (sym (ap (λ (ts : List ℕ). take kept ts) times_is) ∙ take-map (λ row. row.times) kept all)
          (ap (λ (rs : List Counted). times_of (shortest_first rs)) is)
          ∙ sym (map-append (λ row. row.times) (take kept all) (shortest_first (drop kept all)));
    }
