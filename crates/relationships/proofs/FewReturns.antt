-- How many givens name two neighbours on paths, where no two of them name the same two.
use Rattle.std.proofs.Common.{◌≡◌, ◌≢◌, ℕ, ◌<◌, ◌≤◌, ◌&&◌, inl, inr, true, false, List, [], ◌∷◌, length, get_or, map, filter, refl, sym, ap, ap₂, subst, arith, eq-eqb}
use Rattle.std.specs.List.{list_any}
use Rattle.std.specs.Cmp.{IsEquivalence}
use Rattle.std.proofs.lemmas.Bool.{cases_Bool, false_from_ne_true, or_cases, false≢true}
use Rattle.std.proofs.lemmas.Cmp.{nat_eq_equiv}
use Rattle.std.proofs.lemmas.List.{length-map, get_or-map}
use Rattle.std.proofs.lemmas.List.Kept.{AllPairs-filter}
use Rattle.std.proofs.lemmas.Map.Keys.{IsDistinct-from_apart}
use Rattle.std.proofs.lemmas.Map.Made.{length-le_from_is_member}
use Rattle.relationships.specs.declared.given.Given.{Given}
use Rattle.relationships.specs.Graph.{Edge, edge_of, is_same, edges}
use Rattle.relationships.specs.Givens.{return_of, NameOnce, names_edge}
use Rattle.relationships.specs.Laws.Givens.{FewReturnsLaw}
use Rattle.relationships.proofs.Edges.{same_edge}

pub same-equivalence : IsEquivalence is_same
same-equivalence = record {
  refl = λ (e : Edge). rw (eq-eqb e.0 e.0 refl, eq-eqb e.1 e.1 refl);
  symm = λ (e f : Edge). ap₂ (λ a b. a && b) (nat_eq_equiv.symm e.0 f.0) (nat_eq_equiv.symm e.1 f.1);
  congr = λ (e f g : Edge) h. ap (λ (d : Edge). is_same d g) (same_edge e f h);
}

-- the two that a given names
abbrev pair_of : Given → Edge
pair_of g = edge_of g.over g.under

-- those of the givens that name one of these edges
abbrev naming : List Edge → List Given → List Given
naming es givens = filter (λ g. list_any (is_same (pair_of g)) es) givens

named_there : (es : List Edge) (givens : List Given) (e : Edge) → list_any (is_same e) (map pair_of (naming es givens)) ≡ true → list_any (is_same e) es ≡ true
named_there es [] e h = absurd (false≢true h)
named_there es (g ∷ givens) e h =
    let behind = named_there es givens e in
    elim (cases_Bool (list_any (is_same (pair_of g)) es)) [
      | inl t ↦
          let k : list_any (is_same e) (pair_of g ∷ map pair_of (naming es givens)) ≡ true = rw t at h in
          elim (or_cases (is_same e (pair_of g)) (list_any (is_same e) (map pair_of (naming es givens))) k) [
            | inl same ↦ subst (λ (f : Edge). list_any (is_same f) es ≡ true) (sym (same_edge e (pair_of g) same)) t
            | inr further ↦ behind further
          ]
      | inr f ↦ (let k : list_any (is_same e) (map pair_of (naming es givens)) ≡ true = rw f at h in behind k)
    ]

-- no more of the givens name one of these edges than there are edges
pub named_few : (es : List Edge) (givens : List Given) → NameOnce givens → length (naming es givens) ≤ length es
named_few es givens once =
    let n = length-map some pair_of in
    let le = length-le_from_is_member same-equivalence (map pair_of some) es (IsDistinct-from_apart is_same (map pair_of some) apart) (named_there es givens) in
    omega (arith, n, le)
  where
    some : List Given
    some = naming es givens

    apart : (i j : ℕ) (e : Edge) → i < j → j < length (map pair_of some) → is_same (get_or (map pair_of some) i e) (get_or (map pair_of some) j e) ≡ false
    apart i j e lt within =
        let n = length-map some pair_of in
        let g : Given = record { over = e.0; under = e.1 } in
        let differ = AllPairs-filter (λ (g h : Given). pair_of g ≢ pair_of h) (λ g. list_any (is_same (pair_of g)) es) givens once i j g lt (omega (arith, n, within)) in
        let at = get_or-map pair_of some i g e (omega (arith, n, lt, within)) in
        let at' = get_or-map pair_of some j g e (omega (arith, n, within)) in
        rw (at, at') (false_from_ne_true (is_same (pair_of (get_or some i g)) (pair_of (get_or some j g))) (λ t. differ (same_edge (pair_of (get_or some i g)) (pair_of (get_or some j g)) t)))

pub few_returns_law : FewReturnsLaw
few_returns_law givens paths once =
    let n = length-map (filter (names_edge paths) givens) return_of in let le = named_few (edges paths) givens once in omega (arith, n, le)
