-- The arcs of triples: two for each, in order.
use Rattle.std.proofs.Common.{◌≡◌, ◌≢◌, ℕ, zero, suc, ◌+◌, ◌-◌, ◌*◌, ◌/◌, ◌%◌, ◌<◌, ◌⊎◌, inl, inr, List, [], ◌∷◌, Some, length, take, flat_map, refl, sym, ap, ◌∙◌, subst, arith}
use Rattle.std.specs.Prelude.{slice_get}
use Rattle.relationships.specs.Graph.{Edge}
use Rattle.tor_digraph.specs.Walks.{IsArc, HasArc}
use Rattle.std.proofs.lemmas.Bool.{cases_eq, cases_lt}
use Rattle.std.proofs.lemmas.Option.{same_Some}
use Rattle.tor_arena.proofs.Gets.{slice_get-some}
use Rattle.tor_clauses.specs.declared.triple.Triple.{Triple}
use Rattle.tor_clauses.specs.Literals.{opposite_node}
use Rattle.tor_clauses.specs.Triples.{arc_of, partner_of, arcs_of}
use Rattle.tor_clauses.proofs.Members.{In, In-get, get-In, flat_map-In, In-flat_map}
use Rattle.tor_clauses.proofs.Sames.{reversed_arc, reversed_arc_twice, partner-reversed}

pub length-arcs : (ts : List Triple) → length (flat_map arcs_of ts) ≡ length ts * 2
length-arcs [] = refl
length-arcs (t ∷ ts) = let h = length-arcs ts in omega (arith, h)

pub take-arcs : (n : ℕ) (ts : List Triple) → take (n * 2) (flat_map arcs_of ts) ≡ flat_map arcs_of (take n ts)
take-arcs zero ts = refl
take-arcs (suc n) [] = let e : suc n * 2 ≡ suc (suc (n * 2)) = omega arith in rw e refl
take-arcs (suc n) (t ∷ ts) =
    let e : suc n * 2 ≡ suc (suc (n * 2)) = omega arith in
    ap (λ k. take k (flat_map arcs_of (t ∷ ts))) e ∙ ap (λ (l : List Edge). arc_of t ∷ partner_of t ∷ l) (take-arcs n ts)

-- the triple of an arc
pub record IsTripleOf (ts : List Triple) (k : ℕ) (a : Edge) : Type 0 where
  pub t : Triple
  pub there : slice_get ts (k / 2) ≡ Some t
  pub is : (a ≡ arc_of t) ⊎ (a ≡ partner_of t)

pub triple_at : (ts : List Triple) (k : ℕ) (a : Edge) → slice_get (flat_map arcs_of ts) k ≡ Some a → IsTripleOf ts k a
triple_at [] k a h = absurd (cc h)
triple_at (t ∷ ts) zero a h = record { t = t; there = refl; is = inl (sym (same_Some _ _ h)) }
triple_at (t ∷ ts) (suc zero) a h = record { t = t; there = refl; is = inr (sym (same_Some _ _ h)) }
triple_at (t ∷ ts) (suc (suc k)) a h =
    let r = triple_at ts k a h in
    let e : suc (suc k) / 2 ≡ suc (k / 2) = omega arith in
    record { t = r.t; there = ap (slice_get (t ∷ ts)) e ∙ r.there; is = r.is }

-- ---- partners

reversed-In : (a : Edge) (t : Triple) → In a (arcs_of t) → In (reversed_arc a) (arcs_of t)
reversed-In a t (inl e) = inr (inl (sym (partner-reversed t) ∙ ap reversed_arc e))
reversed-In a t (inr (inl e)) = inl (sym (reversed_arc_twice (arc_of t)) ∙ ap reversed_arc (partner-reversed t ∙ e))
reversed-In a t (inr (inr h)) = absurd h

pub partners : (ts : List Triple) (l m : ℕ) → HasArc (flat_map arcs_of ts) l m → HasArc (flat_map arcs_of ts) (opposite_node m) (opposite_node l)
partners ts l m h =
    let r = flat_map-In arcs_of (l, m) ts (get-In (flat_map arcs_of ts) h.0 (l, m) h.1) in
    In-get (reversed_arc (l, m)) (flat_map arcs_of ts) (In-flat_map arcs_of r.0 (reversed_arc (l, m)) ts r.1 (reversed-In (l, m) r.0 r.2))

pair_second : (ts : List Triple) (n : ℕ) (a : Edge) → slice_get (flat_map arcs_of ts) (n * 2) ≡ Some a → slice_get (flat_map arcs_of ts) (n * 2 + 1) ≡ Some (reversed_arc a)
pair_second [] n a h = absurd (cc h)
pair_second (t ∷ ts) zero a h = ap Some (sym (partner-reversed t) ∙ ap reversed_arc (same_Some _ _ h))
pair_second (t ∷ ts) (suc n) a h =
    let e : suc n * 2 ≡ suc (suc (n * 2)) = omega arith in
    let f : suc n * 2 + 1 ≡ suc (suc (n * 2 + 1)) = omega arith in
    let arcs : List Edge = flat_map arcs_of (t ∷ ts) in
    subst (λ k. slice_get arcs k ≡ Some (reversed_arc a)) (sym f) (pair_second ts n a (subst (λ k. slice_get arcs k ≡ Some a) e h))

pair_first : (ts : List Triple) (n : ℕ) (a : Edge) → slice_get (flat_map arcs_of ts) (n * 2 + 1) ≡ Some a → slice_get (flat_map arcs_of ts) (n * 2) ≡ Some (reversed_arc a)
pair_first [] n a h = absurd (cc h)
pair_first (t ∷ ts) zero a h = ap Some (sym (reversed_arc_twice (arc_of t)) ∙ ap reversed_arc (partner-reversed t ∙ same_Some _ _ h))
pair_first (t ∷ ts) (suc n) a h =
    let e : suc n * 2 ≡ suc (suc (n * 2)) = omega arith in
    let f : suc n * 2 + 1 ≡ suc (suc (n * 2 + 1)) = omega arith in
    let arcs : List Edge = flat_map arcs_of (t ∷ ts) in
    subst (λ k. slice_get arcs k ≡ Some (reversed_arc a)) (sym e) (pair_first ts n a (subst (λ k. slice_get arcs k ≡ Some a) f h))

pub partner_even : (ts : List Triple) (arcs : List (ℕ × ℕ)) (k j l m : ℕ) → arcs ≡ flat_map arcs_of ts → k % 2 ≡ 0 → j ≡ k + 1 → IsArc arcs k l m →
    IsArc arcs j (opposite_node m) (opposite_node l)
partner_even ts arcs k j l m e even one arc =
    let half : k ≡ (k / 2) * 2 = omega (arith, even) in
    let there : slice_get (flat_map arcs_of ts) ((k / 2) * 2) ≡ Some (l, m) = subst (λ (es : List (ℕ × ℕ)). slice_get es ((k / 2) * 2) ≡ Some (l, m))
    e (subst (λ i. slice_get arcs i ≡ Some (l, m)) half arc) in
    let other = pair_second ts (k / 2) (l, m) there in
    let same : (k / 2) * 2 + 1 ≡ j = omega (arith, half, one) in
    subst (λ i. slice_get arcs i ≡ Some (reversed_arc (l, m))) same (subst (λ (es : List (ℕ × ℕ)). slice_get es ((k / 2) * 2 + 1) ≡ Some (reversed_arc (l, m))) (sym e) other)

pub partner_odd : (ts : List Triple) (arcs : List (ℕ × ℕ)) (k j l m : ℕ) → arcs ≡ flat_map arcs_of ts → k % 2 ≢ 0 → j ≡ k - 1 → IsArc arcs k l m →
    IsArc arcs j (opposite_node m) (opposite_node l)
partner_odd ts arcs k j l m e odd one arc =
    let half : k ≡ (k / 2) * 2 + 1 = omega (arith, odd) in
    let there : slice_get (flat_map arcs_of ts) ((k / 2) * 2 + 1) ≡ Some (l, m) =
    subst (λ (es : List (ℕ × ℕ)). slice_get es ((k / 2) * 2 + 1) ≡ Some (l, m)) e (subst (λ i. slice_get arcs i ≡ Some (l, m)) half arc) in
    let other = pair_first ts (k / 2) (l, m) there in
    let same : (k / 2) * 2 ≡ j = omega (arith, half, one) in
    subst (λ i. slice_get arcs i ≡ Some (reversed_arc (l, m))) same (subst (λ (es : List (ℕ × ℕ)). slice_get es ((k / 2) * 2) ≡ Some (reversed_arc (l, m))) (sym e) other)

-- an arc of the first triples, one more, is one of the first ones, or the first arc of the last of them, or the partner of that
pub next_arc : (ts : List Triple) (arcs : List (ℕ × ℕ)) (k j l m : ℕ) → arcs ≡ flat_map arcs_of ts → j < (k + 1) * 2 → IsArc arcs j l m →
    (j < k * 2) ⊎ ((j ≡ k * 2) ⊎ IsArc arcs (k * 2) (opposite_node m) (opposite_node l))
next_arc ts arcs k j l m are lt arc = elim (cases_lt j (k * 2)) [
  | inl before ↦ inl before
  | inr le ↦ elim (cases_eq j (k * 2)) [
    | inl same ↦ inr (inl same)
    | inr apart ↦ (
        let last : j ≡ k * 2 + 1 = omega (arith, lt, le, apart) in
        let odd : j % 2 ≢ 0 = (λ e. absurd (omega (arith, e, last))) in
        let behind : k * 2 ≡ j - 1 = omega (arith, last) in
        inr (inr (partner_odd ts arcs j (k * 2) l m are odd behind arc))
        )
  ]
]

-- the arc at a place is one of the two of the triple at half the place
pub triple_named : (ts : List Triple) (arcs : List Edge) (k : ℕ) (t : Triple) → arcs ≡ flat_map arcs_of ts → k < length arcs → slice_get ts (k / 2) ≡ Some t →
    (slice_get arcs k ≡ Some (arc_of t)) ⊎ (slice_get arcs k ≡ Some (partner_of t))
triple_named ts arcs k t e below there =
    let a = slice_get-some arcs k below in
    let r = triple_at ts k a.0 (subst (λ l. slice_get l k ≡ Some a.0) e a.1) in
    let same : t ≡ r.t = same_Some _ _ (sym there ∙ r.there) in
    elim r.is [
      | inl f ↦ inl (a.1 ∙ ap Some (f ∙ ap arc_of (sym same)))
      | inr f ↦ inr (a.1 ∙ ap Some (f ∙ ap partner_of (sym same)))
    ]
