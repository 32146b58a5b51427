-- Numbers in rising order.
use Rattle.std.proofs.Common.{◌≡◌, ℕ, ◌<◌, inl, inr, List, Some, sym, ap, ◌∙◌, subst, arith}
use Rattle.std.specs.Prelude.{slice_get, Contains}
use Rattle.std.specs.List.{dedup}
use Rattle.std.specs.List.Sorted.{IsSorted, IsStrictlyIncreasing, IsPermutation}
use Rattle.std.specs.Ordering.{nat_cmp}
use Rattle.std.proofs.Common.{eqb}
use Rattle.std.proofs.lemmas.Bool.{cases_order}
use Rattle.std.proofs.lemmas.List.Kept.{AllPairs-from_increasing, Contains-dedup_nat, Contains-from_dedup}
use Rattle.std.proofs.lemmas.List.Sorted.{Contains-permutation, IsPermutation-sym}
use Rattle.std.proofs.lemmas.Map.Keys.{IsStrictlyIncreasing-dedup}
use Rattle.std.proofs.lemmas.Option.{slice_get_within, get_or_from_slice_get}
use Rattle.tor_digraph.specs.Closing.{IsOnce}
use Rattle.reach_counts.specs.Cycles.{IsRisingList}

module _ (xs : List ℕ) where
  pub rising-at : IsStrictlyIncreasing xs → IsRisingList xs
  rising-at h i j x y lt at_i at_j =
      let less = AllPairs-from_increasing xs h i j 0 lt (slice_get_within xs j y at_j) in
      let x_is = get_or_from_slice_get xs i x 0 at_i in
      let y_is = get_or_from_slice_get xs j y 0 at_j in omega (arith, less, x_is, y_is)

  pub rising-once : IsRisingList xs → IsOnce xs
  rising-once h i j x at_i at_j =
      elim (cases_order i j) [
        | inl same ↦ same
        | inr o ↦ elim o [
          | inl lt ↦ (let less = h i j x x lt at_i at_j in absurd (omega (arith, less)))
          | inr lt ↦ (let less = h j i x x lt at_j at_i in absurd (omega (arith, less)))
        ]
      ]

  -- the greater number stands later
  pub rising-back : IsRisingList xs → (i j x y : ℕ) → slice_get xs i ≡ Some x → slice_get xs j ≡ Some y → x < y → i < j
  rising-back h i j x y at_i at_j less =
      elim (cases_order i j) [
        | inl same ↦ (
            let xs_y : slice_get xs i ≡ Some y = ap (slice_get xs) same ∙ at_j in
            let e = get_or_from_slice_get xs i x 0 at_i in
            let f = get_or_from_slice_get xs i y 0 xs_y in absurd (omega (arith, e, f, less)))
        | inr o ↦ elim o [
          | inl lt ↦ lt
          | inr lt ↦ (let other = h j i y x lt at_j at_i in absurd (omega (arith, other, less)))
        ]
      ]

-- ---- numbers that were sorted, each once

pub sorted-rising : (sorted out : List ℕ) → IsSorted nat_cmp sorted → out ≡ dedup eqb sorted → IsStrictlyIncreasing out
sorted-rising sorted out s is = subst IsStrictlyIncreasing (sym is) (IsStrictlyIncreasing-dedup sorted s)

pub sorted-members : (xs sorted out : List ℕ) → IsPermutation xs sorted → out ≡ dedup eqb sorted → (b : ℕ) →
    (Contains out b → Contains xs b) × (Contains xs b → Contains out b)
sorted-members xs sorted out p is b = (
  λ c. Contains-permutation sorted xs b (IsPermutation-sym xs sorted p) (Contains-from_dedup eqb sorted b (subst (λ l. Contains l b) is c)),
  λ c. subst (λ l. Contains l b) (sym is) (Contains-dedup_nat sorted b (Contains-permutation xs sorted b p c)),
)
