-- Neighbours in the order of the edges, and sorted.
use Rattle.std.proofs.Common.{◌≡◌, ℕ, ◌+◌, ◌^◌, ◌<◌, ◌≤◌, ◌⊎◌, inl, inr, true, false, List, [], ◌∷◌, ◌++◌, length, get_or, take, map, refl, sym, ap, ◌∙◌, subst, arith, All}
use Rattle.std.proofs.Common.{lt-ltb, le-ltb, eq-eqb}
use Rattle.std.specs.Prelude.{filter, count_by, Bool, cond}
use Rattle.std.specs.List.{AllPairs}
use Rattle.std.specs.List.Sorted.{IsSortedByKey, IsPermutation}
use Rattle.std.specs.Ordering.{nat_cmp, ordering_then, is_lt}
use Rattle.std.proofs.Common.{Ordering, Less, Equal}
use Rattle.std.specs.Cmp.{IsTotalOrder}
use Rattle.std.proofs.lemmas.Bool.{cases_order, false≢true}
use Rattle.std.proofs.lemmas.Cmp.{then_total, on_total, nat_cmp_total}
use Rattle.std.proofs.lemmas.List.{take_more, map-append, append-nil}
use Rattle.std.proofs.lemmas.List.Elements.{filter-append, All-push}
use Rattle.std.proofs.lemmas.List.Sorted.{ranks_by, sorted_far, length_permutation, sum_by-IsPermutation}
use Rattle.result_text.specs.declared.file.EdgeLine.{EdgeLine}
use Rattle.drawing.specs.declared.group.Group.{Group}
use Rattle.drawing.specs.declared.group.Neighbour.{Neighbour}
use Rattle.drawing.specs.declared.group.Tally.{Tally}
use Rattle.drawing.specs.Neighbours.{is_in, neighbour_of, neighbours, IsNoLater, has_forced_edge, tally}
use Rattle.drawing.specs.Order.{order_key, IsShort}

-- ---- one edge more

-- the neighbours of the first k edges, with what their type says of their support
pub record AreFirst (a : ℕ) (g : Group) (edges : List EdgeLine) (k : ℕ) (found : List Neighbour) : Type 0 where
  pub is : found ≡ neighbours a g (take k edges)
  pub small : All IsShort found

more : (a : ℕ) (g : Group) (edges : List EdgeLine) (k : ℕ) (d : EdgeLine) → k < length edges →
    neighbours a g (take (k + 1) edges) ≡ neighbours a g (take k edges) ++ map (neighbour_of a) (filter (is_in a g) (get_or edges k d ∷ []))
more a g edges k d lt =
    ap (neighbours a g) (take_more edges k d lt) ∙ ap (map (neighbour_of a)) (filter-append (is_in a g) (take k edges) (get_or edges k d ∷ []))
    ∙ map-append (neighbour_of a) (filter (is_in a g) (take k edges)) (filter (is_in a g) (get_or edges k d ∷ []))

short_one : (a : ℕ) (g : Group) (e : EdgeLine) (found : List Neighbour) (b : Bool) → is_in a g e ≡ b → e.support < 2 ^ 64 → All IsShort found →
    All IsShort (found ++ neighbours a g (e ∷ []))
short_one a g e found true is short all =
    subst (λ ns. All IsShort (found ++ ns)) (sym (rw is refl)) (All-push IsShort found (neighbour_of a e) all short)
short_one a g e found false is short all =
    subst (λ ns. All IsShort (found ++ ns)) (sym (rw is refl)) (subst (All IsShort) (sym (append-nil found)) all)

pub with_edge : (a : ℕ) (g : Group) (edges : List EdgeLine) (k : ℕ) (d : EdgeLine) (found new : List Neighbour) → k < length edges →
    new ≡ found ++ neighbours a g (get_or edges k d ∷ []) → (get_or edges k d).support < 2 ^ 64 → AreFirst a g edges k found → AreFirst a g edges (k + 1) new
with_edge a g edges k d found new lt is short so_far = record {
  is = is ∙ ap (λ ns. ns ++ neighbours a g (get_or edges k d ∷ [])) so_far.is ∙ sym (more a g edges k d lt);
  small = subst (All IsShort) (sym is) (short_one a g (get_or edges k d) found (is_in a g (get_or edges k d)) refl short so_far.small);
}

-- ---- sorted by support and number

first_less : (x y : ℕ) → x < y → nat_cmp x y ≡ Less
first_less x y lt = rw (lt-ltb x y lt) refl

both_same : (x y : ℕ) → x ≡ y → nat_cmp x y ≡ Equal
both_same x y e = let ge : y ≤ x = omega arith in rw (le-ltb x y ge, eq-eqb x y e) refl

not_lower : (x y u v : ℕ) → is_lt (ordering_then (nat_cmp x y) (nat_cmp u v)) ≡ false → (y < x) ⊎ ((x ≡ y) × (v ≤ u))
not_lower x y u v h =
    elim (cases_order x y) [
      | inl e ↦ inr (e, behind (subst (λ o. is_lt (ordering_then o (nat_cmp u v)) ≡ false) (both_same x y e) h))
      | inr o ↦ elim o [
        | inl lt ↦ absurd (false≢true (sym (subst (λ o. is_lt (ordering_then o (nat_cmp u v)) ≡ false) (first_less x y lt) h)))
        | inr gt ↦ inl gt
      ]
    ]
  where
    behind : is_lt (nat_cmp u v) ≡ false → v ≤ u
    behind k =
        elim (cases_order u v) [
          | inl e ↦ omega arith
          | inr o ↦ elim o [ inl lt ↦ absurd (false≢true (sym (subst (λ o. is_lt o ≡ false) (first_less u v lt) k))) | inr gt ↦ omega arith ]
        ]

abbrev pub pair_cmp : ℕ × ℕ → ℕ × ℕ → Ordering
pair_cmp x y = ordering_then (nat_cmp x.0 y.0) (nat_cmp x.1 y.1)

pair_total : IsTotalOrder pair_cmp
pair_total = then_total (on_total (λ (p : ℕ × ℕ). p.0) nat_cmp_total) (on_total (λ (p : ℕ × ℕ). p.1) nat_cmp_total)

not_after : (n m : Neighbour) → n.support < 2 ^ 64 → m.support < 2 ^ 64 → is_lt (pair_cmp (order_key m) (order_key n)) ≡ false → IsNoLater n m
not_after n m small small' h =
    elim (not_lower (order_key m).0 (order_key n).0 (order_key m).1 (order_key n).1 h) [
      | inl lt ↦ inl (omega (arith, lt, small, small'))
      | inr (e, le) ↦ inr (omega (arith, e, small, small'), le)
    ]

pub sorted_is : (ns : List Neighbour) → All IsShort ns → IsSortedByKey order_key pair_cmp ns → AllPairs IsNoLater ns
sorted_is ns small up i j d less lt =
    not_after (get_or ns i d) (get_or ns j d) (small i d (omega (arith, less, lt))) (small j d lt)
    (sorted_far (λ (x y : Neighbour). is_lt (pair_cmp (order_key x) (order_key y))) (ranks_by pair_total order_key) ns up i j d (omega (arith, less)) lt)

-- ---- counts are the same in any order

abbrev tally_with : ℕ → ℕ → Tally
tally_with all forced = record { all = all; forced = forced }

same : (a b c d : ℕ) → a ≡ b → c ≡ d → tally_with a c ≡ tally_with b d
same a b c d e f = ap (λ x. tally_with x c) e ∙ ap (λ x. tally_with b x) f

pub same_tally : (xs ys : List Neighbour) → IsPermutation xs ys → tally ys ≡ tally xs
same_tally xs ys p = same (length ys) (length xs) (count_by has_forced_edge ys) (count_by has_forced_edge xs) (length_permutation xs ys p) (sum_by-IsPermutation (λ n. cond (has_forced_edge n) 1 0) xs ys p)
