-- Lists of distinct paths of which each comes before all those behind it.
use Rattle.std.proofs.Common.{◌≡◌, ◌≢◌, ◌⊎◌, inl, inr, ℕ, zero, suc, ◌+◌, ◌≤◌, Bool, true, false, cond, not, ◌||◌, true≢false, List, [], ◌∷◌, drop}
use Rattle.std.proofs.Common.{All, Contains, sum_by, bytes_eq, IsPermutation, refl, sym, ap, ◌∙◌, subst, arith, if◌then◌else◌}
use Rattle.std.specs.List.{list_any}
use Rattle.std.proofs.lemmas.Bool.{and_parts}
use Rattle.std.proofs.lemmas.Slice.Eq.{bytes_eq-Decides}
use Rattle.std.proofs.lemmas.List.Sums.{sum_by-cons}
use Rattle.std.proofs.lemmas.List.Elements.{All-nil, All-cons, All-head, All-tail, All-weaker, All-contains}
use Rattle.std.proofs.lemmas.List.Sorted.{IsPermutation-refl, IsPermutation-sym, IsPermutation-trans, IsPermutation-cons, IsPermutation-middle}
use Rattle.std.proofs.lemmas.List.Sorted.{All-permutation, Contains-permutation, sum_by-IsPermutation}
use Rattle.path_table.specs.Rows.{Counted, row_paths, none_twice}
use Rattle.path_order.specs.declared.choice.Order.{Order}
use Rattle.path_order.specs.declared.choice.Order.TheVariants.{Seen, Short}
use Rattle.path_order.specs.Orders.{ordered, comes_before, put_short, shortest_first, Rise}
use Rattle.path_order.specs.Laws.{AreDistinct, HaveSameRows}
use Rattle.path_order.proofs.PathComparisons.{other_first, before_chain, not_both}

-- how often a path stands there, and that each does so once at most

abbrev pub one_if : Bool → ℕ
one_if b = cond b 1 0

abbrev pub is_of : List ℕ → Counted → ℕ
is_of path row = one_if (bytes_eq row.path path)

abbrev pub Other : List ℕ → Counted → Type 0
Other path row = path ≢ row.path

abbrev pub Before : Counted → Counted → Type 0
Before row other = comes_before row other ≡ true

abbrev pub many : List ℕ → List Counted → ℕ
many path rows = sum_by (is_of path) rows

pub record Few (rows : List Counted) : Type 0 where
  pub at : (path : List ℕ) → many path rows ≤ 1

pub cond_false : (b : Bool) → one_if b ≡ 0 → b ≡ false
cond_false true e = absurd (omega (arith, e))
cond_false false e = refl

not_true : (b : Bool) → not b ≡ true → b ≡ false
not_true true e = absurd (true≢false (sym e))
not_true false e = refl

or_false : (a b : Bool) → (a || b) ≡ false → (a ≡ false) × (b ≡ false)
or_false true b e = absurd (true≢false e)
or_false false b e = (refl, e)

none_none : (path : List ℕ) (rows : List Counted) → list_any (λ other. bytes_eq other path) (row_paths rows) ≡ false → many path rows ≡ 0
none_none path [] e = refl
none_none path (row ∷ rows) e =
    let parts = or_false (bytes_eq row.path path) (list_any (λ other. bytes_eq other path) (row_paths rows)) e in
    let all : many path (row ∷ rows) ≡ is_of path row + many path rows = sum_by-cons (is_of path) row rows in
    let no : is_of path row ≡ 0 = ap one_if parts.0 in
    let rest : many path rows ≡ 0 = none_none path rows parts.1 in
    omega (arith, all, no, rest)

pub few_distinct : (rows : List Counted) → AreDistinct rows → Few rows
few_distinct [] e = record { at = λ path. omega (arith) }
few_distinct (row ∷ rows) e =
    let parts = and_parts (not (list_any (λ other. bytes_eq other row.path) (row_paths rows))) (none_twice (row_paths rows)) e in
    let others : list_any (λ other. bytes_eq other row.path) (row_paths rows) ≡ false = not_true _ parts.0 in
    record {
      at = λ path.
          let all : many path (row ∷ rows) ≡ is_of path row + many path rows = sum_by-cons (is_of path) row rows in
          let few : many path rows ≤ 1 = (few_distinct rows parts.1).at path in
          elim (bytes_eq row.path path) as (λ b. bytes_eq row.path path ≡ b → many path (row ∷ rows) ≤ 1) [
            | true ↦ λ is.
                let path_is : row.path ≡ path = (bytes_eq-Decides row.path path).0 is in
                let none : many path rows ≡ 0 = subst (λ p. many p rows ≡ 0) path_is (none_none row.path rows others) in
                let one : is_of path row ≡ 1 = ap one_if is in
                omega (arith, all, none, one)
            | false ↦ λ is.
                let zero_is : is_of path row ≡ 0 = ap one_if is in
                omega (arith, all, few, zero_is)
          ] refl;
    }

pub few_tail : (row : Counted) (rows : List Counted) → Few (row ∷ rows) → Few rows
few_tail row rows few = record {
  at = λ path.
      let all : many path (row ∷ rows) ≡ is_of path row + many path rows = sum_by-cons (is_of path) row rows in
      let least = few.at path in
      omega (arith, all, least);
}

pub few_drop : (n : ℕ) (rows : List Counted) → Few rows → Few (drop n rows)
few_drop zero rows few = few
few_drop (suc n) [] few = few
few_drop (suc n) (row ∷ rows) few = few_drop n rows (few_tail row rows few)

pub few_moved : (a b : List Counted) → IsPermutation a b → Few a → Few b
few_moved a b moved few = record { at = λ path. subst (λ n. n ≤ 1) (sym (sum_by-IsPermutation (is_of path) a b moved)) (few.at path) }

apart : (path : List ℕ) (rows : List Counted) → many path rows ≡ 0 → All (Other path) rows
apart path [] none = All-nil (Other path)
apart path (row ∷ rows) none =
    let all : many path (row ∷ rows) ≡ is_of path row + many path rows = sum_by-cons (is_of path) row rows in
    let no : is_of path row ≡ 0 = omega (arith, all, none) in
    All-cons (Other path) row rows (λ same. true≢false (sym ((bytes_eq-Decides row.path path).1 (sym same)) ∙ cond_false (bytes_eq row.path path) no))
    (apart path rows (omega (arith, all, none)))

pub none_more : (row : Counted) (rows : List Counted) → Few (row ∷ rows) → many row.path rows ≡ 0
none_more row rows few =
    let all : many row.path (row ∷ rows) ≡ is_of row.path row + many row.path rows = sum_by-cons (is_of row.path) row rows in
    let one : is_of row.path row ≡ 1 = ap one_if ((bytes_eq-Decides row.path row.path).1 refl) in
    let least = few.at row.path in
    omega (arith, all, one, least)

pub few_apart : (row : Counted) (rows : List Counted) → Few (row ∷ rows) → All (Other row.path) rows
few_apart row rows few = apart row.path rows (none_more row rows few)

-- putting moves rows alone

pub put_moves : (row : Counted) (rows : List Counted) → IsPermutation (row ∷ rows) (put_short row rows)
put_moves row [] = IsPermutation-refl _
put_moves row (first ∷ others) =
    elim (comes_before first row) as (λ b. IsPermutation (row ∷ first ∷ others) (if b then first ∷ put_short row others else row ∷ first ∷ others)) [
      | true ↦ IsPermutation-trans _ _ _ (IsPermutation-middle (row ∷ []) first others) (IsPermutation-cons first _ _ (put_moves row others))
      | false ↦ IsPermutation-refl _
    ]

pub shortest_moves : (rows : List Counted) → IsPermutation rows (shortest_first rows)
shortest_moves [] = IsPermutation-refl _
shortest_moves (row ∷ rows) = IsPermutation-trans _ _ _ (IsPermutation-cons row _ _ (shortest_moves rows)) (put_moves row (shortest_first rows))

-- what is put among rising rows makes rising rows

pub put_rises : (row : Counted) (rows : List Counted) → All (Other row.path) rows → Rise rows → Rise (put_short row rows)
put_rises row [] other rise = (All-nil (Before row), tt)
put_rises row (first ∷ others) other rise =
    elim (comes_before first row) as (λ b. comes_before first row ≡ b → Rise (if b then first ∷ put_short row others else row ∷ first ∷ others)) [
      | true ↦ λ is. (
        All-permutation (Before first) (row ∷ others) _ (put_moves row others) (All-cons (Before first) row others is rise.0),
        put_rises row others (All-tail (Other row.path) first others other) rise.1,
      )
      | false ↦ λ is.
          let before : comes_before row first ≡ true = other_first row.path first.path is (All-head (Other row.path) first others other) in (
            All-cons (Before row) first others before
                (All-weaker (Before first) (Before row) (λ r later. before_chain row.path first.path r.path before later) others rise.0),
            rise,
          )
    ] refl

pub shortest_rises : (rows : List Counted) → Few rows → Rise (shortest_first rows)
shortest_rises [] few = tt
shortest_rises (row ∷ rows) few =
    put_rises row (shortest_first rows) (All-permutation (Other row.path) rows _ (shortest_moves rows) (few_apart row rows few)) (shortest_rises rows (few_tail row rows few))

-- rising rows are one list

here_or_later : (x y : Counted) (ys : List Counted) → Contains (y ∷ ys) x → (y ≡ x) ⊎ Contains ys x
here_or_later x y ys (zero, less, is) = inl is
here_or_later x y ys (suc k, less, is) = inr (k, omega (arith, less), is)

first_there : (y : Counted) (ys : List Counted) → Contains (y ∷ ys) y
first_there y ys = (0, omega arith, refl)

later_there : (x y : Counted) (ys : List Counted) → Contains ys x → Contains (y ∷ ys) x
later_there x y ys (k, less, is) = (suc k, omega (arith, less), is)

heads : (x y : Counted) (xs ys : List Counted) → Rise (x ∷ xs) → Rise (y ∷ ys) → HaveSameRows (x ∷ xs) (y ∷ ys) → x ≡ y
heads x y xs ys rx ry same =
    elim (here_or_later x y ys ((same x).0 (first_there x xs))) [
      | inl is ↦ sym is
      | inr later ↦ elim (here_or_later y x xs ((same y).1 (first_there y ys))) [
        | inl is ↦ is
        | inr later' ↦ absurd (not_both x.path y.path (All-contains (Before x) xs y rx.0 later') (All-contains (Before y) ys x ry.0 later))
      ]
    ]

tail_into : (x y : Counted) (xs ys : List Counted) → Rise (x ∷ xs) → x ≡ y → (z : Counted) → (Contains (x ∷ xs) z → Contains (y ∷ ys) z) → Contains xs z → Contains ys z
tail_into x y xs ys rx is z into there =
    let before : comes_before x z ≡ true = All-contains (Before x) xs z rx.0 there in
    elim (here_or_later z y ys (into (later_there z x xs there))) [
      | inl same ↦
          let itself : comes_before x x ≡ true = subst (λ r. comes_before x r ≡ true) (sym (is ∙ same)) before in
          absurd (not_both x.path x.path itself itself)
      | inr later ↦ later
    ]

pub one_list : (xs ys : List Counted) → Rise xs → Rise ys → HaveSameRows xs ys → xs ≡ ys
one_list [] [] rx ry same = refl
one_list [] (y ∷ ys) rx ry same = absurd (omega (arith, ((same y).1 (first_there y ys)).1))
one_list (x ∷ xs) [] rx ry same = absurd (omega (arith, ((same x).0 (first_there x xs)).1))
one_list (x ∷ xs) (y ∷ ys) rx ry same =
    let is : x ≡ y = heads x y xs ys rx ry same in
    let rest : xs ≡ ys = one_list xs ys rx.1 ry.1 (λ z. (tail_into x y xs ys rx is z (same z).0, tail_into y x ys xs ry (sym is) z (same z).1)) in
    ap (λ r. r ∷ xs) is ∙ ap (λ rs. y ∷ rs) rest

pub moved_rows : (a b : List Counted) → IsPermutation a b → HaveSameRows a b
moved_rows a b moved row = (Contains-permutation a b row moved, Contains-permutation b a row (IsPermutation-sym a b moved))

-- rising rows that others were moved to are the order of these
pub only : (rows others : List Counted) → Few rows → IsPermutation rows others → Rise others → others ≡ shortest_first rows
only rows others few moved rise =
    one_list others (shortest_first rows) rise (shortest_rises rows few)
    (moved_rows _ _ (IsPermutation-trans _ _ _ (IsPermutation-sym rows others moved) (shortest_moves rows)))

pub same_order : (a b : List Counted) → Few a → Few b → HaveSameRows a b → shortest_first a ≡ shortest_first b
same_order a b fa fb same =
    one_list (shortest_first a) (shortest_first b) (shortest_rises a fa) (shortest_rises b fb)
    (λ row. (
      λ there. (moved_rows _ _ (shortest_moves b) row).0 ((same row).0 ((moved_rows _ _ (shortest_moves a) row).1 there)),
      λ there. (moved_rows _ _ (shortest_moves a) row).0 ((same row).1 ((moved_rows _ _ (shortest_moves b) row).1 there)),
    ))

pub ordered_moves : (order : Order) (rows : List Counted) → IsPermutation rows (ordered order rows)
ordered_moves Seen rows = IsPermutation-refl rows
ordered_moves Short rows = shortest_moves rows
