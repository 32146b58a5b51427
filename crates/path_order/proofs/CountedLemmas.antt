-- Paths that are counted: in whatever order, the same rows.
use Rattle.std.proofs.Common.{◌≡◌, ℕ, zero, suc, ◌+◌, ◌≤◌, ◌⊎◌, inl, inr, Bool, true, false, not, true≢false, List, [], ◌∷◌, map, min, ◌^◌, ◌-◌}
use Rattle.std.proofs.Common.{Contains, filter, sum_by, bytes_eq, IsPermutation, refl, sym, ap, ◌∙◌, subst, arith, if◌then◌else◌}
use Rattle.std.proofs.lemmas.Slice.Eq.{bytes_eq-Decides}
use Rattle.std.proofs.lemmas.List.Sums.{sum_by-cons}
use Rattle.std.proofs.lemmas.List.Sorted.{IsPermutation-sym, IsPermutation-trans, sum_by-IsPermutation}
use Rattle.tor_arena.proofs.Gets.{Contains-none, Contains-map}
use Rattle.path_table.specs.Rows.{Counted}
use Rattle.path_table.specs.Table.{distinct_paths, times, counted}
use Rattle.path_order.specs.Orders.{shortest_first}
use Rattle.path_order.specs.Laws.{HaveSameRows, StandAsOften}
use Rattle.path_order.proofs.RiseLemmas.{one_if, is_of, many, Few, same_order, shortest_moves}

-- what stands in a list, in a filtered one and in a mapped one

head_or_tail : {X : Type 0} (x y : X) (ys : List X) → Contains (y ∷ ys) x → (y ≡ x) ⊎ Contains ys x
head_or_tail x y ys (zero, less, is) = inl is
head_or_tail x y ys (suc k, less, is) = inr (k, omega (arith, less), is)

at_head : {X : Type 0} (x y : X) (ys : List X) → y ≡ x → Contains (y ∷ ys) x
at_head x y ys is = (0, omega arith, is)

in_tail : {X : Type 0} (x y : X) (ys : List X) → Contains ys x → Contains (y ∷ ys) x
in_tail x y ys (k, less, is) = (suc k, omega (arith, less), is)

into_filter : {X : Type 0} (f : X → Bool) (x : X) (xs : List X) → f x ≡ true → Contains xs x → Contains (filter f xs) x
into_filter f x [] passes there = absurd (Contains-none x there)
into_filter f x (y ∷ ys) passes there =
    elim (f y) as (λ b. f y ≡ b → Contains (if b then y ∷ filter f ys else filter f ys) x) [
      | true ↦ λ is. elim (head_or_tail x y ys there) [
        | inl same ↦ at_head x y (filter f ys) same
        | inr later ↦ in_tail x y (filter f ys) (into_filter f x ys passes later)
      ]
      | false ↦ λ is. elim (head_or_tail x y ys there) [
        | inl same ↦ absurd (true≢false (sym passes ∙ sym (ap f same) ∙ is))
        | inr later ↦ into_filter f x ys passes later
      ]
    ] refl

out_of_filter : {X : Type 0} (f : X → Bool) (x : X) (xs : List X) → Contains (filter f xs) x → Contains xs x
out_of_filter f x [] there = there
out_of_filter f x (y ∷ ys) there =
    elim (f y) as (λ b. Contains (if b then y ∷ filter f ys else filter f ys) x → Contains (y ∷ ys) x) [
      | true ↦ λ at. elim (head_or_tail x y (filter f ys) at) [
        | inl same ↦ at_head x y ys same
        | inr later ↦ in_tail x y ys (out_of_filter f x ys later)
      ]
      | false ↦ λ at. in_tail x y ys (out_of_filter f x ys at)
    ] there

record IsMapped {X Y : Type 0} (f : X → Y) (xs : List X) (y : Y) : Type 0 where
  from : X
  there : Contains xs from
  gives : f from ≡ y

out_of_map : {X Y : Type 0} (f : X → Y) (xs : List X) (y : Y) → Contains (map f xs) y → IsMapped f xs y
out_of_map f [] y there = absurd (Contains-none y there)
out_of_map f (x ∷ xs) y there = elim (head_or_tail y (f x) (map f xs) there) [
  | inl same ↦ record { from = x; there = at_head x x xs refl; gives = same }
  | inr later ↦
      let rest = out_of_map f xs y later in
      record { from = rest.from; there = in_tail rest.from x xs rest.there; gives = rest.gives }
]

-- the distinct paths are the paths

abbrev is_other : List ℕ → List ℕ → Bool
is_other x other = not (bytes_eq other x)

into_distinct : (p : List ℕ) (paths : List (List ℕ)) → Contains paths p → Contains (distinct_paths paths) p
into_distinct p [] there = there
into_distinct p (x ∷ xs) there = elim (head_or_tail p x xs there) [
  | inl same ↦ at_head p x (filter (is_other x) (distinct_paths xs)) same
  | inr later ↦ elim (bytes_eq p x) as (λ b. bytes_eq p x ≡ b → Contains (x ∷ filter (is_other x) (distinct_paths xs)) p) [
    | true ↦ λ is. at_head p x (filter (is_other x) (distinct_paths xs)) (sym ((bytes_eq-Decides p x).0 is))
    | false ↦ λ is. in_tail p x (filter (is_other x) (distinct_paths xs))
        (into_filter (is_other x) p (distinct_paths xs) (ap not is) (into_distinct p xs later))
  ] refl
]

out_of_distinct : (p : List ℕ) (paths : List (List ℕ)) → Contains (distinct_paths paths) p → Contains paths p
out_of_distinct p [] there = there
out_of_distinct p (x ∷ xs) there = elim (head_or_tail p x (filter (is_other x) (distinct_paths xs)) there) [
  | inl same ↦ at_head p x xs same
  | inr later ↦ in_tail p x xs (out_of_distinct p xs (out_of_filter (is_other x) p (distinct_paths xs) later))
]

-- each once

abbrev one_of : List ℕ → List ℕ → ℕ
one_of p d = one_if (bytes_eq d p)

filter_less : (p x : List ℕ) (ds : List (List ℕ)) → sum_by (one_of p) (filter (is_other x) ds) ≤ sum_by (one_of p) ds
filter_less p x [] = omega arith
filter_less p x (d ∷ ds) =
    let all : sum_by (one_of p) (d ∷ ds) ≡ one_of p d + sum_by (one_of p) ds = sum_by-cons (one_of p) d ds in
    let rest = filter_less p x ds in
    elim (is_other x d) as (λ b. sum_by (one_of p) (if b then d ∷ filter (is_other x) ds else filter (is_other x) ds) ≤ sum_by (one_of p) (d ∷ ds)) [
      | true ↦
          let kept : sum_by (one_of p) (d ∷ filter (is_other x) ds) ≡ one_of p d + sum_by (one_of p) (filter (is_other x) ds) = sum_by-cons (one_of p) d (filter (is_other x) ds) in
          omega (arith, all, rest, kept)
      | false ↦ omega (arith, all, rest)
    ]

filter_none : (p : List ℕ) (ds : List (List ℕ)) → sum_by (one_of p) (filter (is_other p) ds) ≡ 0
filter_none p [] = refl
filter_none p (d ∷ ds) =
    let rest = filter_none p ds in
    elim (bytes_eq d p) as (λ b. bytes_eq d p ≡ b → sum_by (one_of p) (if not b then d ∷ filter (is_other p) ds else filter (is_other p) ds) ≡ 0) [
      | true ↦ λ is. rest
      | false ↦ λ is.
          let kept : sum_by (one_of p) (d ∷ filter (is_other p) ds) ≡ one_of p d + sum_by (one_of p) (filter (is_other p) ds) = sum_by-cons (one_of p) d (filter (is_other p) ds) in
          let no : one_of p d ≡ 0 = ap one_if is in
          omega (arith, rest, kept, no)
    ] refl

distinct_once : (p : List ℕ) (paths : List (List ℕ)) → sum_by (one_of p) (distinct_paths paths) ≤ 1
distinct_once p [] = omega arith
distinct_once p (x ∷ xs) =
    let rest : List (List ℕ) = filter (is_other x) (distinct_paths xs) in
    let all : sum_by (one_of p) (x ∷ rest) ≡ one_of p x + sum_by (one_of p) rest = sum_by-cons (one_of p) x rest in
    let less : sum_by (one_of p) rest ≤ sum_by (one_of p) (distinct_paths xs) = filter_less p x (distinct_paths xs) in
    let before : sum_by (one_of p) (distinct_paths xs) ≤ 1 = distinct_once p xs in
    elim (bytes_eq x p) as (λ b. bytes_eq x p ≡ b → sum_by (one_of p) (x ∷ rest) ≤ 1) [
      | true ↦ λ is.
          let none : sum_by (one_of p) rest ≡ 0 = subst (λ (q : List ℕ). sum_by (one_of p) (filter (is_other q) (distinct_paths xs)) ≡ 0)
          (sym ((bytes_eq-Decides x p).0 is)) (filter_none p (distinct_paths xs)) in
          let one : one_of p x ≡ 1 = ap one_if is in
          omega (arith, all, none, one)
      | false ↦ λ is.
          let no : one_of p x ≡ 0 = ap one_if is in
          omega (arith, all, less, before, no)
    ] refl

-- the rows of counted paths

abbrev row_in : List (List ℕ) → List ℕ → Counted
row_in paths path = record { path = path; times = times paths path }

many_mapped : (p : List ℕ) (paths ds : List (List ℕ)) → many p (map (row_in paths) ds) ≡ sum_by (one_of p) ds
many_mapped p paths [] = refl
many_mapped p paths (d ∷ ds) =
    sum_by-cons (is_of p) (row_in paths d) (map (row_in paths) ds) ∙ ap (λ n. one_of p d + n) (many_mapped p paths ds) ∙ sym (sum_by-cons (one_of p) d ds)

pub counted_few : (paths : List (List ℕ)) → Few (counted paths)
counted_few paths = record { at = λ p. subst (λ n. n ≤ 1) (sym (many_mapped p paths (distinct_paths paths))) (distinct_once p paths) }

pub moved_often : (a b : List (List ℕ)) → IsPermutation a b → StandAsOften a b
moved_often a b moved path = sym (sum_by-IsPermutation (one_of path) a b moved)

often_sym : (a b : List (List ℕ)) → StandAsOften a b → StandAsOften b a
often_sym a b often path = sym (often path)

some_of : (p : List ℕ) (paths : List (List ℕ)) → Contains paths p → 1 ≤ sum_by (one_of p) paths
some_of p [] there = absurd (Contains-none p there)
some_of p (x ∷ xs) there =
    let all : sum_by (one_of p) (x ∷ xs) ≡ one_of p x + sum_by (one_of p) xs = sum_by-cons (one_of p) x xs in
    elim (head_or_tail p x xs there) [
      | inl same ↦ let one : one_of p x ≡ 1 = ap one_if ((bytes_eq-Decides x p).1 same) in omega (arith, all, one)
      | inr later ↦ let rest = some_of p xs later in omega (arith, all, rest)
    ]

there_of : (p : List ℕ) (paths : List (List ℕ)) → 1 ≤ sum_by (one_of p) paths → Contains paths p
there_of p [] some = absurd (omega (arith, some))
there_of p (x ∷ xs) some =
    let all : sum_by (one_of p) (x ∷ xs) ≡ one_of p x + sum_by (one_of p) xs = sum_by-cons (one_of p) x xs in
    elim (bytes_eq x p) as (λ b. bytes_eq x p ≡ b → Contains (x ∷ xs) p) [
      | true ↦ λ is. at_head p x xs ((bytes_eq-Decides x p).0 is)
      | false ↦ λ is. let no : one_of p x ≡ 0 = ap one_if is in in_tail p x xs (there_of p xs (omega (arith, all, no, some)))
    ] refl

counted_into : (a b : List (List ℕ)) (row : Counted) → StandAsOften a b → Contains (counted a) row → Contains (counted b) row
counted_into a b row often there =
    let mapped = out_of_map (row_in a) (distinct_paths a) row there in
    let path = mapped.from in
    let many : sum_by (one_of path) a ≡ sum_by (one_of path) b = often path in
    let some = some_of path a (out_of_distinct path a mapped.there) in
    let in_b : Contains (distinct_paths b) path = into_distinct path b (there_of path b (omega (arith, many, some))) in
    let same : times a path ≡ times b path = ap (λ n. min n (2 ^ 64 - 1)) (often path) in
    let is : row_in b path ≡ row = ap (λ n. record { path = path; times = n }) (sym same) ∙ mapped.gives in
    subst (λ (r : Counted). Contains (counted b) r) is (Contains-map (row_in b) (distinct_paths b) path in_b)

pub counted_alike : (a b : List (List ℕ)) → StandAsOften a b → HaveSameRows (counted a) (counted b)
counted_alike a b often row = (counted_into a b row often, counted_into b a row (often_sym a b often))

pub counted_order : (a b : List (List ℕ)) → StandAsOften a b → shortest_first (counted a) ≡ shortest_first (counted b)
counted_order a b often = same_order (counted a) (counted b) (counted_few a) (counted_few b) (counted_alike a b often)

pub counted_moved : (a b : List (List ℕ)) → StandAsOften a b → IsPermutation (counted a) (counted b)
counted_moved a b often =
    let there : IsPermutation (counted a) (shortest_first (counted b)) =
    subst (λ rows. IsPermutation (counted a) rows) (counted_order a b often) (shortest_moves (counted a)) in
    IsPermutation-trans (counted a) (shortest_first (counted b)) (counted b) there (IsPermutation-sym (counted b) (shortest_first (counted b)) (shortest_moves (counted b)))
