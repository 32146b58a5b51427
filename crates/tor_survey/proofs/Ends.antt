-- The ASes of pairs are known.
use Rattle.std.proofs.Common.{◌≡◌, ℕ, inl, inr, Bool, true, false, not, ◌||◌, ◌==◌, List, [], ◌∷◌, ◌++◌, min, max, refl, sym, subst, arith, eq-eqb}
use Rattle.std.specs.List.{list_any}
use Rattle.std.proofs.lemmas.Bool.{cases_Bool, cases_lt, false≢true}
use Rattle.relationships.specs.Graph.{Edge, edge_of, is_same}
use Rattle.relationships.proofs.Edges.{same_edge}
use Rattle.tor_numbers.specs.Edges.{with_edge}
use Rattle.tor_numbers.proofs.EdgeLists.{with_edge-new}
use Rattle.tor_survey.specs.Sets.{with_as, IsKnown, HaveEnds}
use Rattle.tor_survey.proofs.Appearing.{with_as-known, with_as-new}

or_left : (s t : Bool) → s ≡ true → (s || t) ≡ true
or_left s t h = rw h refl

or_right : (s t : Bool) → t ≡ true → (s || t) ≡ true
or_right true t h = refl
or_right false t h = h

known_before : (known : List ℕ) (a n : ℕ) → IsKnown known n → IsKnown (known ++ a ∷ []) n
known_before [] a n h = absurd (false≢true h)
known_before (m ∷ known) a n h =
    elim (cases_Bool (n == m)) [
      | inl t ↦ or_left (n == m) (list_any (λ k. n == k) (known ++ a ∷ [])) t
      | inr f ↦ or_right (n == m) (list_any (λ k. n == k) (known ++ a ∷ [])) (known_before known a n (subst (λ b. (b || list_any (λ k. n == k) known) ≡ true) f h))
    ]

known_last : (known : List ℕ) (n : ℕ) → IsKnown (known ++ n ∷ []) n
known_last [] n = or_left (n == n) false (eq-eqb n n refl)
known_last (m ∷ known) n = or_right (n == m) (list_any (λ k. n == k) (known ++ n ∷ [])) (known_last known n)

known_stays : (known : List ℕ) (a n : ℕ) → IsKnown known n → IsKnown (with_as known a) n
known_stays known a n h =
    elim (cases_Bool (list_any (λ m. a == m) known)) [
      | inl t ↦ subst (λ l. IsKnown l n) (sym (with_as-known known a t)) h
      | inr f ↦ subst (λ l. IsKnown l n) (sym (with_as-new known a f)) (known_before known a n h)
    ]

pub known_added : (known : List ℕ) (a : ℕ) → IsKnown (with_as known a) a
known_added known a =
    elim (cases_Bool (list_any (λ m. a == m) known)) [
      | inl t ↦ subst (λ l. IsKnown l a) (sym (with_as-known known a t)) t
      | inr f ↦ subst (λ l. IsKnown l a) (sym (with_as-new known a f)) (known_last known a)
    ]

pub ends_stay : (known : List ℕ) (a : ℕ) (es : List Edge) → HaveEnds known es → HaveEnds (with_as known a) es
ends_stay known a [] h = tt
ends_stay known a (e ∷ es) h = (known_stays known a e.0 h.0, known_stays known a e.1 h.1, ends_stay known a es h.2)

ends_push : (known : List ℕ) (es : List Edge) (e : Edge) → HaveEnds known es → IsKnown known e.0 → IsKnown known e.1 → HaveEnds known (es ++ e ∷ [])
ends_push known [] e h low high = (low, high, tt)
ends_push known (f ∷ es) e h low high = (h.0, h.1, ends_push known es e h.2 low high)

-- both of two are known, so their least and their greatest are
of_two : (known : List ℕ) (a b : ℕ) → IsKnown known a → IsKnown known b → IsKnown known (min a b) × IsKnown known (max a b)
of_two known a b h k =
    elim (cases_lt a b) [
      | inl lt ↦
          let low : min a b ≡ a = omega (arith, lt) in let high : max a b ≡ b = omega (arith, lt) in
          (subst (IsKnown known) (sym low) h, subst (IsKnown known) (sym high) k)
      | inr ge ↦
          let low : min a b ≡ b = omega (arith, ge) in let high : max a b ≡ a = omega (arith, ge) in
          (subst (IsKnown known) (sym low) k, subst (IsKnown known) (sym high) h)
    ]

-- the second of two is known where their least and their greatest are
second_of : (known : List ℕ) (a b : ℕ) → IsKnown known (min a b) → IsKnown known (max a b) → IsKnown known b
second_of known a b h k =
    elim (cases_lt a b) [
      | inl lt ↦ let high : max a b ≡ b = omega (arith, lt) in subst (IsKnown known) high k
      | inr ge ↦ let low : min a b ≡ b = omega (arith, ge) in subst (IsKnown known) low h
    ]

ends_of : (known : List ℕ) (es : List Edge) (e : Edge) → HaveEnds known es → list_any (is_same e) es ≡ true → IsKnown known e.0 × IsKnown known e.1
ends_of known [] e h any = absurd (false≢true any)
ends_of known (f ∷ es) e h any =
    elim (cases_Bool (is_same e f)) [
      | inl t ↦ let same : f ≡ e = sym (same_edge e f t) in (subst (λ (g : Edge). IsKnown known g.0) same h.0, subst (λ (g : Edge). IsKnown known g.1) same h.1)
      | inr n ↦ ends_of known es e h.2 (subst (λ b. (b || list_any (is_same e) es) ≡ true) n any)
    ]

-- ---- a step

pub to_known : (known : List ℕ) (es : List Edge) (from to : ℕ) → HaveEnds known es → list_any (is_same (edge_of from to)) es ≡ true → IsKnown known to
to_known known es from to h any = let both = ends_of known es (edge_of from to) h any in second_of known from to both.0 both.1

pub step_known : (known : List ℕ) (es : List Edge) (from to : ℕ) → HaveEnds known es → list_any (is_same (edge_of from to)) es ≡ true → known ≡ with_as known to
step_known known es from to h any = sym (with_as-known known to (to_known known es from to h any))

pub ends_new : (known : List ℕ) (es : List Edge) (from to : ℕ) → HaveEnds known es → IsKnown known from → list_any (is_same (edge_of from to)) es ≡ false →
    HaveEnds (with_as known to) (with_edge es (edge_of from to))
ends_new known es from to h k any =
    let both = of_two (with_as known to) from to (known_stays known to from k) (known_added known to) in
    subst (HaveEnds (with_as known to)) (sym (with_edge-new es (edge_of from to) any)) (ends_push (with_as known to) es (edge_of from to) (ends_stay known to es h) both.0 both.1)

pub not_false : (b : Bool) → false ≡ not b → b ≡ true
not_false true h = refl
not_false false h = absurd (false≢true h)

pub not_true : (b : Bool) → true ≡ not b → b ≡ false
not_true true h = absurd (false≢true (sym h))
not_true false h = refl
