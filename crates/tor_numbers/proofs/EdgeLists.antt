-- Edges in a table of their numbers.
use Rattle.std.proofs.Common.{◌≡◌, ℕ, ◌<◌, ◌≤◌, ◌↔◌, IsTrue, inl, inr, true, false, not, List, [], ◌∷◌, ◌++◌, length, Option, Some, None, MatchOption}
use Rattle.std.proofs.Common.{min, max, refl, sym, ap, ◌∙◌, subst, arith, eq-eqb}
use Rattle.std.specs.Prelude.{slice_get, All, Contains, IsNone, IsFalse, slice_index_or, nat_eq}
use Rattle.std.specs.List.{list_any, IsDistinct}
use Rattle.std.proofs.lemmas.Bool.{cases_order, both_ways, false_from_ne_true, ne_eqb}
use Rattle.std.proofs.lemmas.List.{get_or_default, length-map}
use Rattle.std.proofs.lemmas.List.Elements.{All-contains}
use Rattle.std.proofs.lemmas.Map.Keys.{IsDistinct-push, apart_from_distinct}
use Rattle.std.proofs.lemmas.Map.Views.{list_any-from_Contains, Contains-from_any}
use Rattle.std.proofs.lemmas.Option.{none-some, slice_get-get_or, slice_get_within, get_or_from_slice_get, same_Some}
use Rattle.relationships.specs.Graph.{Edge, edge_of, is_same}
use Rattle.relationships.proofs.Edges.{same_edge}
use Rattle.relationships.proofs.FewReturns.{same-equivalence}
use Rattle.tor_numbers.specs.EdgeNumbers.{edge_numbered, IsEdgeNumber}
use Rattle.tor_numbers.specs.Edges.{with_edge, edge_at, edges_numbered}
use Rattle.tor_numbers.specs.Places.{GoesLastIfNew}
use Rattle.tor_arena.proofs.Gets.{Contains-from_has, slice_get-push_cases}
use Rattle.tor_numbers.proofs.EdgeNumbers.{edge_got, edge_there, number_there, edges_pushed}

-- ---- with one edge more

pub with_edge-same : (es : List Edge) (e : Edge) → list_any (is_same e) es ≡ true → with_edge es e ≡ es
with_edge-same es e h = rw h refl

pub with_edge-new : (es : List Edge) (e : Edge) → list_any (is_same e) es ≡ false → with_edge es e ≡ es ++ e ∷ []
with_edge-new es e h = rw h refl

-- ---- the edges of numbers

-- an edge is there exactly where its number is
pub edge_known : (numbers : List ℕ) (n : ℕ) (e : Edge) → edge_numbered n ≡ e → Contains numbers n → list_any (is_same e) (edges_numbered numbers) ≡ true
edge_known numbers n e is c = list_any-from_Contains same-equivalence e (edges_numbered numbers) (edge_there numbers n e is c)

pub edge_new : (numbers : List ℕ) (n : ℕ) (e : Edge) → All IsEdgeNumber numbers → 2 ≤ n → edge_numbered n ≡ e → (Contains numbers n → ⊥) →
    list_any (is_same e) (edges_numbered numbers) ≡ false
edge_new numbers n e all h is absent = false_from_ne_true (list_any (is_same e) (edges_numbered numbers))
    (λ any. absent (number_there numbers n e all h is (Contains-from_any same_edge e (edges_numbered numbers) any)))

-- what a number that was put makes of the edges
pub edges_put : (old new : List ℕ) (n : ℕ) (e : Edge) → All IsEdgeNumber old → 2 ≤ n → edge_numbered n ≡ e → GoesLastIfNew n old new →
    edges_numbered new ≡ with_edge (edges_numbered old) e
edges_put old new n e all h is (inl there) = rw (edge_known old n e is there.0) (ap edges_numbered there.1)
edges_put old new n e all h is (inr put) = rw (edge_new old n e all h is put.0) (edges_pushed old new n e is put.1)

pub distinct_put : (old new : List ℕ) (n : ℕ) → All IsEdgeNumber old → 2 ≤ n → GoesLastIfNew n old new → IsDistinct is_same (edges_numbered old) →
    IsDistinct is_same (edges_numbered new)
distinct_put old new n all h (inl there) d = subst (λ l. IsDistinct is_same (edges_numbered l)) (sym there.1) d
distinct_put old new n all h (inr put) d = subst (IsDistinct is_same) (sym (edges_pushed old new n (edge_numbered n) refl put.1))
    (IsDistinct-push same-equivalence (edges_numbered old) (edge_numbered n) d (edge_new old n (edge_numbered n) all h refl put.0))

-- a number that was put is new exactly if it stands behind all others
pub put_is_new : (old new : List ℕ) (k count n : ℕ) (e : Edge) → All IsEdgeNumber old → 2 ≤ n → edge_numbered n ≡ e → count ≡ length old → GoesLastIfNew n old new →
    slice_get new k ≡ Some n → nat_eq k count ≡ not (list_any (is_same e) (edges_numbered old))
put_is_new old new k count n e all h is long (inl there) at =
    let lt = slice_get_within new k n at in
    let same = ap length there.1 in
    ne_eqb k count (λ q. absurd (omega (arith, lt, same, long, q))) ∙ ap not (sym (edge_known old n e is there.0))
put_is_new old new k count n e all h is long (inr put) at =
    elim (slice_get-push_cases old n k n (ap (λ l. slice_get l k) (sym put.1) ∙ at)) [
      | inl before ↦ absurd (put.0 (Contains-from_has old n (k, before)))
      | inr last ↦ eq-eqb k count (last.0 ∙ sym long) ∙ ap not (sym (edge_new old n e all h is put.0))
    ]

-- what a search for a number says of its edge
pub edge_found : (numbers : List ℕ) (n : ℕ) (e : Edge) (r : Option ℕ) → All IsEdgeNumber numbers → 2 ≤ n → edge_numbered n ≡ e →
    MatchOption r (Contains numbers n → ⊥) (λ k. slice_get numbers k ≡ Some n) →
    MatchOption r (Contains (edges_numbered numbers) e → ⊥) (λ k. slice_get (edges_numbered numbers) k ≡ Some e)
edge_found numbers n e None all h is absent = λ c. absent (number_there numbers n e all h is c)
edge_found numbers n e (Some k) all h is at = edge_got numbers k n e is at

pub edge_absent : (es : List Edge) (e : Edge) (r : Option ℕ) → MatchOption r (Contains es e → ⊥) (λ k. slice_get es k ≡ Some e) →
    IsNone r ↔ IsFalse (list_any (is_same e) es)
edge_absent es e None absent = (
  λ n. false_from_ne_true (list_any (is_same e) es) (λ any. absent (Contains-from_any same_edge e es any)),
  λ f. refl,
)
edge_absent es e (Some k) at = (
  λ n. absurd (cc n),
  λ f. absurd (both_ways (list_any (is_same e) es) f (list_any-from_Contains same-equivalence e es (Contains-from_has es e (k, at)))),
)

-- ---- the place where an edge stands is the only one

same_place : (es : List Edge) (e : Edge) (j k : ℕ) → IsDistinct is_same es → j < length es → k < length es → edge_at es j ≡ e → edge_at es k ≡ e → j ≡ k
same_place es e j k once j_within k_within at_j at_k =
    elim (cases_order j k) [
      | inl same ↦ same
      | inr apart ↦ elim apart [
        | inl lt ↦ absurd (both_ways (is_same (edge_at es j) (edge_at es k)) (apart_from_distinct is_same es j k (0, 0) once lt k_within) (both at_j at_k))
        | inr lt ↦ absurd (both_ways (is_same (edge_at es k) (edge_at es j)) (apart_from_distinct is_same es k j (0, 0) once lt j_within) (both at_k at_j))
      ]
    ]
  where
    both : {f g : Edge} → f ≡ e → g ≡ e → is_same f g ≡ true
    both p q = rw (p, q) (same-equivalence.refl e)

pub edge_only : (es : List Edge) (e : Edge) (r : Option ℕ) → IsDistinct is_same es → MatchOption r (Contains es e → ⊥) (λ k. slice_get es k ≡ Some e) →
    (k : ℕ) → k < length es → IsTrue (is_same e (edge_at es k)) ↔ (r ≡ Some k)
edge_only es e None d absent k lt = (
  λ t. absurd (absent (k, lt, get_or_default es k e (0, 0) lt ∙ sym (same_edge e (edge_at es k) t))),
  λ n. absurd (none-some k n),
)
edge_only es e (Some j) d found k lt =
    let at_j : edge_at es j ≡ e = get_or_from_slice_get es j e (0, 0) found in
    let j_within = slice_get_within es j e found in (
      λ t. ap (λ (i : ℕ). Some i) (same_place es e j k d j_within lt at_j (sym (same_edge e (edge_at es k) t))),
      λ s. ap (is_same e) (ap (edge_at es) (sym (same_Some j k s)) ∙ at_j) ∙ same-equivalence.refl e,
    )

-- ---- reading a place

-- the number in a place, and its edge
pub number_read : (numbers read : List ℕ) (es : List Edge) (k : ℕ) → read ≡ numbers → edges_numbered numbers ≡ es → k < length es →
    slice_get numbers k ≡ Some (slice_index_or read k 0)
number_read numbers read es k same shown lt =
    let count = length-map numbers edge_numbered in
    let long = ap length shown in
    slice_get-get_or numbers k 0 (omega (arith, lt, count, long)) ∙ ap (λ l. Some (slice_index_or l k 0)) (sym same)

pub edge_read : (numbers read : List ℕ) (es : List Edge) (k : ℕ) → read ≡ numbers → edges_numbered numbers ≡ es → k < length es →
    slice_get es k ≡ Some (edge_numbered (slice_index_or read k 0))
edge_read numbers read es k same shown lt =
    let n : ℕ = slice_index_or read k 0 in
    ap (λ l. slice_get l k) (sym shown) ∙ edge_got numbers k n (edge_numbered n) refl (number_read numbers read es k same shown lt)

pub is_number : (numbers : List ℕ) (k n : ℕ) → All IsEdgeNumber numbers → slice_get numbers k ≡ Some n → IsEdgeNumber n
is_number numbers k n all at = All-contains IsEdgeNumber numbers n all (Contains-from_has numbers n (k, at))

-- the two ASes in order are an edge
pub in_order : {low high : ℕ} (a b : ℕ) → low ≡ min a b → high ≡ max a b → ◌≡◌ {A = Edge} (low, high) (edge_of a b)
in_order a b p q = rw (p, q) refl
