-- What a table keeps true of its rows stays true in their order.
use Rattle.std.proofs.Common.{◌≡◌, ℕ, ◌+◌, ◌≤◌, Bool, true, false, not, ◌&&◌, ◌||◌, List, [], ◌∷◌, length, take, drop, All, bytes_eq, IsPermutation, refl, sym, ap, ap₂, ◌∙◌, subst, arith}
use Rattle.std.specs.List.{list_any, list_all}
use Rattle.std.proofs.lemmas.Bool.{and_parts}
use Rattle.std.proofs.lemmas.List.{take-append-drop, length-map}
use Rattle.std.proofs.lemmas.List.Sums.{sum_by-cons}
use Rattle.std.proofs.lemmas.List.Elements.{All-nil, All-cons, All-head, All-tail}
use Rattle.std.proofs.lemmas.List.Sorted.{IsPermutation-refl, IsPermutation-append_right, IsPermutation-map, All-permutation, length_permutation, sum_by-IsPermutation}
use Rattle.tor_arena.specs.Limits.{max_paths, max_numbers}
use Rattle.path_clean.specs.Paths.{is_cleaned}
use Rattle.path_table.specs.Rows.{Counted, row_paths, times_of, none_twice}
use Rattle.path_table.specs.Inside.{counted_by}
use Rattle.path_order.specs.declared.choice.Order.{Order}
use Rattle.path_order.specs.declared.choice.Order.TheVariants.{Seen, Short}
use Rattle.path_order.specs.Orders.{ordered, shortest_first, ordered_behind}
use Rattle.path_order.specs.Laws.{AreDistinct}
use Rattle.path_order.specs.TableRows.{AreTableRows}
use Rattle.path_order.proofs.NotedLemmas.{counted_again}
use Rattle.path_order.proofs.RiseLemmas.{is_of, many, cond_false, Few, none_more, few_distinct, few_tail, few_moved, shortest_moves}

pub behind_moves : (order : Order) (kept : ℕ) (rows : List Counted) → IsPermutation rows (ordered_behind order kept rows)
behind_moves Seen kept rows = IsPermutation-refl rows
behind_moves Short kept rows =
    subst (λ (all : List Counted). IsPermutation all (ordered_behind Short kept rows)) (take-append-drop kept rows)
    (IsPermutation-append_right (take kept rows) (drop kept rows) (shortest_first (drop kept rows)) (shortest_moves (drop kept rows)))

pub behind_none : (order : Order) (rows : List Counted) → ordered_behind order 0 rows ≡ ordered order rows
behind_none Seen rows = refl
behind_none Short rows = refl

both_false : (a b : Bool) → a ≡ false → b ≡ false → (a || b) ≡ false
both_false a b first second = ap₂ (λ (x y : Bool). x || y) first second

both_true : (a b : Bool) → a ≡ true → b ≡ true → (a && b) ≡ true
both_true a b first second = ap₂ (λ (x y : Bool). x && y) first second

none_any : (path : List ℕ) (rows : List Counted) → many path rows ≡ 0 → list_any (λ other. bytes_eq other path) (row_paths rows) ≡ false
none_any path [] none = refl
none_any path (row ∷ rows) none =
    let all : many path (row ∷ rows) ≡ is_of path row + many path rows = sum_by-cons (is_of path) row rows in
    let apart : is_of path row ≡ 0 = omega (arith, all, none) in
    both_false (bytes_eq row.path path) (list_any (λ other. bytes_eq other path) (row_paths rows)) (cond_false (bytes_eq row.path path) apart)
    (none_any path rows (omega (arith, all, none)))

pub distinct_few : (rows : List Counted) → Few rows → AreDistinct rows
distinct_few [] few = refl
distinct_few (row ∷ rows) few =
    both_true (not (list_any (λ other. bytes_eq other row.path) (row_paths rows))) (none_twice (row_paths rows))
    (ap not (none_any row.path rows (none_more row rows few))) (distinct_few rows (few_tail row rows few))

abbrev IsClean : List ℕ → Type 0
IsClean path = is_cleaned path ≡ true

each_clean : (paths : List (List ℕ)) → list_all is_cleaned paths ≡ true → All IsClean paths
each_clean [] all = All-nil IsClean
each_clean (path ∷ paths) all =
    let parts = and_parts (is_cleaned path) (list_all is_cleaned paths) all in
    All-cons IsClean path paths parts.0 (each_clean paths parts.1)

all_clean : (paths : List (List ℕ)) → All IsClean paths → list_all is_cleaned paths ≡ true
all_clean [] each = refl
all_clean (path ∷ paths) each =
    both_true (is_cleaned path) (list_all is_cleaned paths) (All-head IsClean path paths each) (all_clean paths (All-tail IsClean path paths each))

pub rows_moved : (a b : List Counted) → IsPermutation a b → AreTableRows a → AreTableRows b
rows_moved a b moved are =
    let paths : IsPermutation (row_paths a) (row_paths b) = IsPermutation-map (λ row. row.path) a b moved in
    let counts : IsPermutation (times_of a) (times_of b) = IsPermutation-map (λ row. row.times) a b moved in
    record {
      clean = all_clean (row_paths b) (All-permutation IsClean (row_paths a) (row_paths b) paths (each_clean (row_paths a) are.clean));
      seen = All-permutation (λ times. 1 ≤ times) (times_of a) (times_of b) counts are.seen;
      once = distinct_few b (few_moved a b moved (few_distinct a are.once));
      few = subst (λ n. n ≤ max_paths) (sym (length_permutation (row_paths a) (row_paths b) paths)) are.few;
      numbers = subst (λ n. n ≤ max_numbers) (sym (sum_by-IsPermutation length (row_paths a) (row_paths b) paths)) are.numbers;
    }

-- paths and times that are those of rows

pub held_is : (rows : List Counted) (paths : List (List ℕ)) (counts : List ℕ) → paths ≡ row_paths rows → counts ≡ times_of rows → counted_by paths counts ≡ rows
held_is rows paths counts paths_are counts_are = ap₂ counted_by paths_are counts_are ∙ counted_again rows

pub held_rows : (rows : List Counted) (paths : List (List ℕ)) (counts : List ℕ) → paths ≡ row_paths rows → counts ≡ times_of rows → AreTableRows rows
    → (length counts ≡ length paths) × AreTableRows (counted_by paths counts)
held_rows rows paths counts paths_are counts_are are = (
  ap length counts_are ∙ length-map rows (λ row. row.times) ∙ sym (length-map rows (λ row. row.path)) ∙ sym (ap length paths_are),
  subst AreTableRows (sym (held_is rows paths counts paths_are counts_are)) are,
)
