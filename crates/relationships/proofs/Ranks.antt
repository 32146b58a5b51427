-- What the components of the implications give: an orientation, or a walk that refutes.
use Rattle.std.proofs.Common.{◌≡◌, ◌≢◌, ℕ, ◌<◌, ◌≤◌, inl, inr, true, List, [], ◌∷◌, ◌++◌, map, refl, sym, ap, ◌∙◌, subst, arith, append_assoc, ltb-true, nat_lt}
use Rattle.std.proofs.lemmas.Bool.{cases_Bool, ltb-false}
use Rattle.std.proofs.lemmas.List.Elements.{All-contains}
use Rattle.relationships.specs.declared.walk.Link.{Link}
use Rattle.relationships.specs.Relationship.{label_of, labels_of, is_low, is_high, is_over}
use Rattle.relationships.specs.Evidence.{Numbered, NeighboursDiffer, Fits, IsLinked, BeginsWith}
use Rattle.relationships.specs.Laws.Components.{ranked, RankLaw, CycleLaw}
use Rattle.relationships.proofs.Slopes.{over_one_of, over_parts}
use Rattle.relationships.proofs.Serving.{satisfies_serves}
use Rattle.relationships.proofs.WalkLemmas.{triple_apart}
use Rattle.relationships.proofs.Closures.{reversed_triple}

module _ (rank : ℕ → ℕ → ℕ) where
  low_ranked : (low high : ℕ) → is_low (label_of (ranked rank low high)) ≡ true → rank high low < rank low high
  low_ranked low high h =
      elim (cases_Bool (nat_lt (rank high low) (rank low high))) [
        | inl t ↦ ltb-true (rank high low) (rank low high) t
        | inr f ↦ absurd (cc (rw f at h))
      ]

  high_ranked : (low high : ℕ) → is_high (label_of (ranked rank low high)) ≡ true → rank low high ≤ rank high low
  high_ranked low high h =
      elim (cases_Bool (nat_lt (rank high low) (rank low high))) [
        | inl t ↦ absurd (cc (rw t at h))
        | inr f ↦ ltb-false (rank high low) (rank low high) f
      ]

  -- of two orders of different ranks the higher holds
  over_ranked : (x y : ℕ) → x ≢ y → rank y x < rank x y → is_over (labels_of (ranked rank)) x y ≡ true
  over_ranked x y ne lt =
      elim (over_one_of (ranked rank) x y ne) [
        | inl o ↦ o
        | inr o ↦ elim (over_parts (labels_of (ranked rank)) y x o) [
          | inl p ↦ let b = low_ranked y x p.1 in absurd (omega arith)
          | inr p ↦ let b = high_ranked x y p.1 in absurd (omega arith)
        ]
      ]

  ranked_over : (x y : ℕ) → is_over (labels_of (ranked rank)) x y ≡ true → rank y x ≤ rank x y
  ranked_over x y o =
      elim (over_parts (labels_of (ranked rank)) x y o) [
        | inl p ↦ let b = low_ranked x y p.1 in omega arith
        | inr p ↦ high_ranked y x p.1
      ]

pub rank_law : RankLaw
rank_law paths rank distinct r =
    satisfies_serves (ranked rank) paths distinct (λ x y z t o.
    let back = reversed_triple paths x y z t in
    let apart : y ≢ z = λ e. triple_apart back.0 back.2.0 z y x (All-contains NeighboursDiffer paths back.0 distinct back.1) back.2.1 (sym e) in
    let a = r.along x y z t in
    let b = r.along z y x back in
    let c = r.apart x y z t in
    let d = ranked_over rank x y o in
    over_ranked rank y z apart (omega arith))

-- two walks, of which the first ends as the second begins
pub joined : (A : Numbered) (before : List ℕ) (u v : ℕ) (after : List ℕ) (there back : List Link) →
    IsLinked A (before ++ (u ∷ v ∷ [])) there → IsLinked A (u ∷ v ∷ after) back → IsLinked A (before ++ (u ∷ v ∷ after)) (there ++ back)
joined A [] u v after [] back h k = k
joined A [] u v after (l ∷ there) back h k = absurd h
joined A (b ∷ []) u v after [] back h k = absurd h
joined A (b ∷ []) u v after (l ∷ there) back h k = (h.0, joined A [] u v after there back h.1 k)
joined A (b ∷ c ∷ []) u v after [] back h k = absurd h
joined A (b ∷ c ∷ []) u v after (l ∷ there) back h k = (h.0, joined A (c ∷ []) u v after there back h.1 k)
joined A (b ∷ c ∷ d ∷ before) u v after [] back h k = absurd h
joined A (b ∷ c ∷ d ∷ before) u v after (l ∷ there) back h k = (h.0, joined A (c ∷ d ∷ before) u v after there back h.1 k)

pub cycle_law : CycleLaw
cycle_law A x y before after there back two h begins k ends = record {
  x = x;
  y = y;
  two = two;
  walk = joined A before y x after there back h k;
  begins = (begins_on before begins.0 begins.1);
  flips = (before, after, refl);
  ends = (before ++ ends.0, ap (λ l. before ++ l) ends.1 ∙ sym (append_assoc before ends.0 (x ∷ y ∷ [])));
}
  where
    begins_on : (before rest : List ℕ) → before ++ (y ∷ x ∷ []) ≡ x ∷ y ∷ rest → BeginsWith (before ++ (y ∷ x ∷ after)) x y
    begins_on [] rest e = absurd (two (cc))
    begins_on (b ∷ []) rest e = (x ∷ after, cc)
    begins_on (b ∷ c ∷ before) rest e = (before ++ (y ∷ x ∷ after), cc)

-- ---- a walk of arcs is a walk of ASes

-- each order is followed by one that a link satisfies it on to
abbrev pub AreConsecutive : Numbered → List (ℕ × ℕ) → List Link → Type 0
AreConsecutive A (p ∷ []) [] = Unit {0}
AreConsecutive A (p ∷ q ∷ orders) (link ∷ links) = (p.1 ≡ q.0) × Fits A link p.0 p.1 q.1 × AreConsecutive A (q ∷ orders) links
AreConsecutive A _ _ = ⊥

-- the first AS, and then the second of each order
pub linked_orders : (A : Numbered) (p : ℕ × ℕ) (orders : List (ℕ × ℕ)) (links : List Link) → AreConsecutive A (p ∷ orders) links →
    IsLinked A (p.0 ∷ p.1 ∷ map (λ (q : ℕ × ℕ). q.1) orders) links
linked_orders A p [] [] h = tt
linked_orders A p [] (l ∷ links) h = absurd h
linked_orders A p (q ∷ orders) [] h = absurd h
linked_orders A p (q ∷ orders) (l ∷ links) h =
    (h.1, subst (λ x. IsLinked A (x ∷ q.1 ∷ map (λ (r : ℕ × ℕ). r.1) orders) links) (sym h.0) (linked_orders A q orders links h.2))
