-- Paths in the order of what is noted of them.
use Rattle.std.proofs.Common.{◌≡◌, ◌≢◌, ℕ, zero, suc, ◌+◌, ◌*◌, ◌^◌, ◌-◌, ◌≤◌, ◌<◌, true, false, List, [], ◌∷◌, ◌++◌, length, get_or, slice_index, map, take}
use Rattle.std.proofs.Common.{drop, All, sum_by, IsPermutation, IsSorted, refl, sym, ap, ap₂, ◌∙◌, subst, arith, is_lt}
use Rattle.std.specs.Ordering.{nat_cmp, ordering_then}
use Rattle.std.specs.Cmp.{IsTotalOrder}
use Rattle.std.specs.Cmp.Lexicographic.{slice_cmp}
use Rattle.std.proofs.lemmas.Cmp.{nat_cmp_total, nat_list_cmp_total, on_total, then_total}
use Rattle.std.specs.List.{filter}
use Rattle.std.proofs.lemmas.Bool.{eqb-true}
use Rattle.std.proofs.lemmas.List.{map-append, get_or-map, get_or-drop, length-map, take_all}
use Rattle.std.proofs.lemmas.List.Elements.{All-map, All-weaker, filter_passes}
use Rattle.std.proofs.lemmas.List.Sorted.{ranks_by, sorted_far, IsPermutation-map, All-permutation}
use Rattle.std.proofs.Math.Seq.{take-suc}
use Rattle.path_table.specs.Chains.{row_at}
use Rattle.path_table.specs.Rows.{Counted, row_paths, times_of, none_twice}
use Rattle.path_table.specs.Inside.{counted_by}
use Rattle.path_table.proofs.TableLemmas.{paths_of-counted_by, times_of-counted_by}
use Rattle.path_order.specs.declared.entries.Entry.{Entry}
use Rattle.path_order.specs.declared.choice.Order.TheVariants.{Seen}
use Rattle.path_order.specs.Orders.{comes_before, shortest_first, ordered_behind, Rise}
use Rattle.path_order.specs.Entries.{entry_of, entry_cmp, IsOf, row_places, is_sized, sized, entries_at, places_of, rows_at, times_at, counted_at}
use Rattle.path_order.proofs.PathComparisons.{by_pairs, noted, other_first}
use Rattle.path_order.proofs.RiseLemmas.{Few, few_apart, few_tail, few_moved, only}

pub entry_total : (rows : List (List ℕ)) → IsTotalOrder (entry_cmp rows)
entry_total rows =
    then_total (on_total (λ (e : Entry). e.first) nat_cmp_total) (then_total (on_total (λ (e : Entry). e.second) nat_cmp_total)
    (then_total (on_total (λ (e : Entry). e.third) nat_cmp_total) (then_total (on_total (λ (e : Entry). e.fourth) nat_cmp_total)
    (then_total (on_total (λ (e : Entry). e.fifth) nat_cmp_total) (then_total (on_total (λ (e : Entry). e.sixth) nat_cmp_total)
    (then_total (on_total (λ (e : Entry). e.seventh) nat_cmp_total) (on_total (λ (e : Entry). row_at rows e.place) nat_list_cmp_total)))))))

-- entries compare by their numbers two by two
pub pairs_are : (rows : List (List ℕ)) (a b : Entry) → a.second < 2 ^ 32 → b.second < 2 ^ 32 → a.fourth < 2 ^ 32 → b.fourth < 2 ^ 32 → a.sixth < 2 ^ 32
    → b.sixth < 2 ^ 32
    → ordering_then (nat_cmp (a.first * 2 ^ 32 + a.second) (b.first * 2 ^ 32 + b.second))
    (ordering_then (nat_cmp (a.third * 2 ^ 32 + a.fourth) (b.third * 2 ^ 32 + b.fourth))
    (ordering_then (nat_cmp (a.fifth * 2 ^ 32 + a.sixth) (b.fifth * 2 ^ 32 + b.sixth))
    (ordering_then (nat_cmp a.seventh b.seventh) (slice_cmp nat_cmp (row_at rows a.place) (row_at rows b.place)))))
    ≡ entry_cmp rows a b
pairs_are rows a b a2 b2 a4 b4 a6 b6 =
    let rest = ordering_then (nat_cmp a.seventh b.seventh) (slice_cmp nat_cmp (row_at rows a.place) (row_at rows b.place)) in
    let third = by_pairs a.fifth a.sixth b.fifth b.sixth rest a6 b6 in
    let second = by_pairs a.third a.fourth b.third b.fourth (ordering_then (nat_cmp (a.fifth * 2 ^ 32 + a.sixth) (b.fifth * 2 ^ 32 + b.sixth)) rest) a4 b4 in
    by_pairs a.first a.second b.first b.second
    (ordering_then (nat_cmp (a.third * 2 ^ 32 + a.fourth) (b.third * 2 ^ 32 + b.fourth)) (ordering_then (nat_cmp (a.fifth * 2 ^ 32 + a.sixth) (b.fifth * 2 ^ 32 + b.sixth)) rest)) a2 b2
    ∙ ap (λ o. ordering_then (nat_cmp a.first b.first) (ordering_then (nat_cmp a.second b.second) o))
    (second ∙ ap (λ o. ordering_then (nat_cmp a.third b.third) (ordering_then (nat_cmp a.fourth b.fourth) o)) third)

-- the row that an entry names, and one that stands in a place
abbrev pub at : List (List ℕ) → List ℕ → ℕ → Counted
at rows times place = record { path = row_at rows place; times = slice_index times place }

abbrev pub named : List (List ℕ) → List ℕ → Entry → Counted
named rows times e = at rows times e.place

-- what is noted of places names the rows there
named_at : (rows : List (List ℕ)) (times places : List ℕ) → map (named rows times) (entries_at rows places) ≡ counted_at rows times places
named_at rows times [] = refl
named_at rows times (place ∷ places) = ap (λ (t : List Counted). at rows times place ∷ t) (named_at rows times places)

got_counted : (rows : List (List ℕ)) (times : List ℕ) (k : ℕ) (d : Counted) → length times ≡ length rows → k < length rows
    → get_or (counted_by rows times) k d ≡ record { path = row_at rows k; times = slice_index times k }
got_counted [] times k d same lt = absurd (omega (arith, lt))
got_counted (row ∷ rows) [] k d same lt = absurd (omega (arith, same))
got_counted (row ∷ rows) (n ∷ times) zero d same lt = refl
got_counted (row ∷ rows) (n ∷ times) (suc k) d same lt = got_counted rows times k d (omega (arith, same)) (omega (arith, lt))

counted_length : (rows : List (List ℕ)) (times : List ℕ) → length times ≡ length rows → length (counted_by rows times) ≡ length rows
counted_length [] times same = refl
counted_length (p ∷ ps) [] same = absurd (omega (arith, same))
counted_length (p ∷ ps) (n ∷ ns) same = ap suc (counted_length ps ns (omega (arith, same)))

drop_length : (n : ℕ) (rows : List Counted) → length (drop n rows) ≡ length rows - n
drop_length zero rows = omega arith
drop_length (suc n) [] = omega arith
drop_length (suc n) (row ∷ rows) =
    let rest : length (drop n rows) ≡ length rows - n = drop_length n rows in
    let one : length (row ∷ rows) ≡ suc (length rows) = refl in
    rest ∙ omega (arith, one)

pub places_rows : (rows : List (List ℕ)) (times : List ℕ) (start n : ℕ) → length times ≡ length rows → start + n ≤ length rows
    → counted_at rows times (row_places start n) ≡ take n (drop start (counted_by rows times))
places_rows rows times start zero same in' = refl
places_rows rows times start (suc n) same in' =
    let d : Counted = record { path = []; times = 0 } in
    let left = drop_length start (counted_by rows times) ∙ ap (λ k. k - start) (counted_length rows times same) in
    let long : n < length (drop start (counted_by rows times)) = subst (λ k. n < k) (sym left) (omega (arith, in')) in
    let is : get_or (drop start (counted_by rows times)) n d ≡ at rows times (start + n)
    = get_or-drop start (counted_by rows times) n d ∙ got_counted rows times (start + n) d same (omega (arith, in')) in
    map-append (at rows times) (row_places start n) _
    ∙ ap₂ (λ (a : List Counted) (b : Counted). a ++ b ∷ []) (places_rows rows times start n same (omega (arith, in'))) (sym is)
    ∙ sym (take-suc (drop start (counted_by rows times)) n d long)

-- the rows in the places behind the first ones
pub places_are : (kept : ℕ) (rows : List (List ℕ)) (times : List ℕ) → length times ≡ length rows → kept ≤ length rows
    → counted_at rows times (row_places kept (length rows - kept)) ≡ drop kept (counted_by rows times)
places_are kept rows times same inside =
    let all : List Counted = counted_by rows times in
    let n = length rows - kept in
    places_rows rows times kept n same (omega (arith, inside))
    ∙ take_all n (drop kept all) (subst (λ k. k ≤ n) (sym (drop_length kept all ∙ ap (λ k. k - kept) (counted_length rows times same))) (omega arith))

-- what is noted of paths of one length compares as the paths do
agree : (rows : List (List ℕ)) (times : List ℕ) (size : ℕ) (a b : Entry) → IsOf rows size a → IsOf rows size b
    → is_lt (entry_cmp rows a b) ≡ comes_before (named rows times a) (named rows times b)
agree rows times size a b na nb =
    ap₂ (λ (x y : Entry). is_lt (entry_cmp rows x y)) na.0 nb.0 ∙ ap is_lt (noted (row_at rows a.place) (row_at rows b.place) (na.1 ∙ sym nb.1))

-- no later entry comes before an earlier one
abbrev pub Far : List (List ℕ) → List Entry → Type 0
Far rows es = (i j : ℕ) (d : Entry) → i ≤ j → j < length es → is_lt (entry_cmp rows (get_or es j d) (get_or es i d)) ≡ false

rises : (rows : List (List ℕ)) (times : List ℕ) (size : ℕ) (es : List Entry) → All (IsOf rows size) es → Far rows es → Few (map (named rows times) es)
    → Rise (map (named rows times) es)
rises rows times size [] of' far few = tt
rises rows times size (e ∷ es) of' far few =
    let row = named rows times e in (
      All-map (λ other. comes_before row other ≡ true) (named rows times) es (λ k d lt.
          let other = get_or es k d in
          let late : comes_before (named rows times other) row ≡ false =
          sym (agree rows times size other e (of' (suc k) d (omega (arith, lt))) (of' 0 d (omega (arith)))) ∙ far 0 (suc k) d (omega (arith)) (omega (arith, lt)) in
          let apart : row.path ≢ (get_or (map (named rows times) es) k (named rows times d)).path =
          few_apart row (map (named rows times) es) few k (named rows times d) (subst (λ n. k < n) (sym (length-map es (named rows times))) lt) in
          let apart' : row.path ≢ (named rows times other).path = subst (λ (r : Counted). row.path ≢ r.path) (get_or-map (named rows times) es k d (named rows times d) lt) apart in
          other_first row.path (named rows times other).path late apart'),
      rises rows times size es (λ k d lt. of' (suc k) d (omega (arith, lt))) (λ i j d le lt. far (suc i) (suc j) d (omega (arith, le)) (omega (arith, lt)))
          (few_tail row (map (named rows times) es) few),
    )

-- what is noted of paths of one length is of them

sized_of : (rows : List (List ℕ)) (size place : ℕ) → is_sized rows size place ≡ true → IsOf rows size (entry_of place (row_at rows place))
sized_of rows size place is = (refl, eqb-true (length (row_at rows place)) size is)

all_of : (rows : List (List ℕ)) (size : ℕ) (places : List ℕ) → All (IsOf rows size) (entries_at rows (sized rows size places))
all_of rows size places =
    All-map (IsOf rows size) (λ place. entry_of place (row_at rows place)) (sized rows size places)
    (All-weaker (λ place. is_sized rows size place ≡ true) (λ place. IsOf rows size (entry_of place (row_at rows place)))
    (λ place is. sized_of rows size place is) (sized rows size places) (filter_passes (is_sized rows size) places))

pub sorted_of : (rows : List (List ℕ)) (size : ℕ) (places : List ℕ) (es : List Entry) → IsPermutation (entries_at rows (sized rows size places)) es
    → All (IsOf rows size) es
sorted_of rows size places es moved = All-permutation (IsOf rows size) _ _ moved (all_of rows size places)

-- sorted entries of one length name the rows in their order
pub sorted_rows : (rows : List (List ℕ)) (times : List ℕ) (size : ℕ) (places : List ℕ) (es : List Entry) → Few (counted_at rows times (sized rows size places))
    → IsPermutation (entries_at rows (sized rows size places)) es → IsSorted (entry_cmp rows) es
    → map (named rows times) es ≡ shortest_first (counted_at rows times (sized rows size places))
sorted_rows rows times size places es few moved sorted =
    let moved' : IsPermutation (counted_at rows times (sized rows size places)) (map (named rows times) es) =
    subst (λ rs. IsPermutation rs (map (named rows times) es)) (named_at rows times (sized rows size places)) (IsPermutation-map (named rows times) _ _ moved) in
    let far : Far rows es = sorted_far (λ a b. is_lt (entry_cmp rows a b)) (ranks_by (entry_total rows) (λ x. x)) es sorted in
    only _ _ few moved' (rises rows times size es (sorted_of rows size places es moved) far (few_moved _ _ moved' few))

-- one row more
pub take_next : {X : Type 0} (xs : List X) (k : ℕ) (d : X) → k < length xs → take (k + 1) xs ≡ take k xs ++ get_or xs k d ∷ []
take_next xs k d lt =
    let one : k + 1 ≡ suc k = omega arith in
    ap (λ n. take n xs) one ∙ take-suc xs k d lt

pub row_is : (rows : List (List ℕ)) (k : ℕ) → row_at rows k ≡ get_or rows k []
row_is [] k = refl
row_is (row ∷ rows) zero = refl
row_is (row ∷ rows) (suc k) = row_is rows k

-- rows put together again from their paths and times
pub counted_again : (rows : List Counted) → counted_by (row_paths rows) (times_of rows) ≡ rows
counted_again [] = refl
counted_again (row ∷ rows) = ap (λ (rs : List Counted). row ∷ rs) (counted_again rows)

pub kept_all : (kept : ℕ) (rows : List Counted) → ordered_behind Seen kept rows ≡ rows
kept_all kept rows = refl
