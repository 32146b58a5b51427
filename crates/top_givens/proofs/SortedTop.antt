-- A search among ASes in ascending order.
use Rattle.std.proofs.Common.{◌≡◌, ◌≢◌, ℕ, zero, suc, ◌+◌, ◌%◌, ◌<◌, ◌≤◌, slice_index, slice_set, ap, subst, inl, inr, true, false, ◌==◌, List, [], ◌∷◌, length, get_or, refl, sym, ◌∙◌, arith, eq-eqb, eqb-true}
use Rattle.std.specs.Prelude.{Contains, Ok, Err, Result, MatchResult}
use Rattle.std.specs.Result.{is_ok}
use Rattle.std.specs.List.Sorted.{IsSorted, IsPermutation, IsBinarySearchResult}
use Rattle.std.specs.Ordering.{nat_cmp}
use Rattle.std.proofs.lemmas.Bool.{cases_Bool, false_from_ne_true, both_ways, or_right, cases_lt}
use Rattle.std.proofs.lemmas.List.{get_or_default, get_or-set_same, get_or-set_other}
use Rattle.std.proofs.lemmas.List.Sorted.{Contains-permutation, IsPermutation-sym, IsNonDecreasingBy-from_sort, searched}
use Rattle.top_givens.specs.TopGivens.{is_top}
use Rattle.top_givens.specs.Binding.{HaveSameTop, AreTopMarks}

-- a test of a list as what it holds
pub held : (top : List ℕ) (a : ℕ) → Contains top a → is_top top a ≡ true
held [] a c = absurd (omega (arith, c.1))
held (b ∷ top) a (zero, lt, is) = let same : (b == a) ≡ true = eq-eqb b a is in rw same refl
held (b ∷ top) a (suc k, lt, is) = or_right (b == a) (is_top top a) (held top a (k, omega (arith, lt), is))

pub found : (top : List ℕ) (a : ℕ) → is_top top a ≡ true → Contains top a
found [] a t = absurd (cc t)
found (b ∷ top) a t =
    elim (cases_Bool (b == a)) [
      | inl s ↦ (zero, omega arith, eqb-true b a s)
      | inr f ↦ (let rest = found top a (rw f at t) in (suc rest.0, omega (arith, rest.1), rest.2))
    ]

pub same_by_order : (ases sorted : List ℕ) → IsPermutation ases sorted → HaveSameTop ases sorted
same_by_order ases sorted moved = record {
  same = λ a.
      elim (cases_Bool (is_top ases a)) [
        | inl t ↦ t ∙ sym (held sorted a (Contains-permutation ases sorted a moved (found ases a t)))
        | inr f ↦ f ∙ sym (false_from_ne_true (is_top sorted a) (λ t. both_ways (is_top ases a) f
            (held ases a (Contains-permutation sorted ases a (IsPermutation-sym ases sorted moved) (found sorted a t)))))
      ];
}

-- what the search answers
pub tells : (xs : List ℕ) (x : ℕ) (r : Result ℕ ℕ) → IsSorted nat_cmp xs → IsBinarySearchResult (λ y. nat_cmp y x) xs r → is_ok r ≡ is_top xs x
tells xs x r sorted result = by r (searched xs x r result (λ i j le lt. IsNonDecreasingBy-from_sort (λ y. y) xs sorted i j 0 le lt))
  where
    by : (o : Result ℕ ℕ) →
        MatchResult o (λ i. (i < length xs) × (get_or xs i 0 ≡ x)) (λ i. (i ≤ length xs) × ((k : ℕ) → k < i → get_or xs k 0 < x) × ((k : ℕ) → i ≤ k → k < length xs → x < get_or xs k 0)) →
        is_ok o ≡ is_top xs x
    by (Ok i) (lt, same) = sym (held xs x (i, lt, get_or_default xs i x 0 lt ∙ same))
    by (Err i) (within, below, above) =
        sym (false_from_ne_true (is_top xs x) (λ t.
        let c = found xs x t in
        let at = sym (get_or_default xs c.0 x 0 c.1) ∙ c.2 in
        elim (cases_lt c.0 i) [
          | inl before ↦ (let less = below c.0 before in absurd (omega (arith, less, at)))
          | inr behind ↦ (let more = above c.0 behind c.1 in absurd (omega (arith, more, at)))
        ]))

-- ---- marks

-- none of the top leaves a remainder without a mark
pub unmarked : (top marks : List ℕ) (a : ℕ) → AreTopMarks top marks → slice_index marks (a % 1024) ≡ 0 → is_top top a ≡ false
unmarked top marks a are none =
    false_from_ne_true (is_top top a) (λ t.
    let c = found top a t in
    let at : slice_index top c.0 ≡ a = sym (get_or_default top c.0 a 0 c.1) ∙ c.2 in
    let some : 1 ≤ slice_index marks (slice_index top c.0 % 1024) = are.marked c.0 c.1 in
    let same : slice_index marks (slice_index top c.0 % 1024) ≡ 0 = ap (λ n. slice_index marks (n % 1024)) at ∙ none in
    absurd (omega (arith, some, same)))

-- one mark more
pub marks_more : (top marks : List ℕ) (k : ℕ) → length marks ≡ 1024 → ((j : ℕ) → j < k → 1 ≤ slice_index marks (slice_index top j % 1024)) →
    (j : ℕ) → j < k + 1 → 1 ≤ slice_index (slice_set marks (slice_index top k % 1024) (k + 1)) (slice_index top j % 1024)
marks_more top marks k all before j below =
    let new : ℕ = slice_index top k % 1024 in
    let at : ℕ = slice_index top j % 1024 in
    let small : new < 1024 = omega arith in
    elim (cases_Bool (at == new)) [
      | inl s ↦
          let set : slice_index (slice_set marks new (k + 1)) new ≡ k + 1 = get_or-set_same marks new (k + 1) 0 (omega (arith, all, small)) in
          subst (λ n. 1 ≤ slice_index (slice_set marks new (k + 1)) n) (sym (eqb-true at new s)) (omega (arith, set))
      | inr f ↦
          let apart : at ≢ new = λ is. both_ways (at == new) f (eq-eqb at new is) in
          let stays : slice_index (slice_set marks new (k + 1)) at ≡ slice_index marks at = get_or-set_other marks new at (k + 1) 0 apart in
          elim (cases_lt j k) [
            | inl less ↦ (let old : 1 ≤ slice_index marks at = before j less in omega (arith, old, stays))
            | inr more ↦ (let same : j ≡ k = omega (arith, more, below) in absurd (apart (ap (λ n. slice_index top n % 1024) same)))
          ]
    ]
