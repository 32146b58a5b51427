-- The arcs that leave a node are those on the chain from its latest.
use Rattle.std.proofs.Common.{◌≡◌, ℕ, zero, suc, ◌<◌, ◌⊎◌, inl, inr, List, [], ◌∷◌, Option, Some, None, Bool, true, false, cond, length, refl, sym, ◌∙◌, ap, subst, arith}
use Rattle.std.specs.Prelude.{slice_get, ◌↔◌, nat_eq, IfSome, Contains}
use Rattle.std.proofs.lemmas.Bool.{cases_eq, eq-eqb}
use Rattle.std.proofs.lemmas.Bool.Decides.{eqb_tells}
use Rattle.std.proofs.lemmas.Option.{same_Some, slice_get_within}
use Rattle.tor_digraph.specs.Walks.{IsArc}
use Rattle.tor_digraph.specs.Links.{NoArcIn, IsLatest}
use Rattle.tor_digraph.specs.Closing.{Has, IsOnce}
use Rattle.tor_digraph.specs.Leaving.{with_arc, arcs_below, from_arc, arcs_on}
use Rattle.tor_arena.proofs.Gets.{has-from_Contains, Contains-from_has}

nat_eq-same : (m n : ℕ) → m ≡ n → nat_eq m n ≡ true
nat_eq-same m n e = eq-eqb m n e

nat_eq-other : (m n : ℕ) → (m ≡ n → ⊥) → nat_eq m n ≡ false
nat_eq-other m n h = elim (eqb_tells m n) [ inl t ↦ absurd (h t.1) | inr f ↦ f.0 ]

module _ {X : Type 0} where
  cons-cases : (y : X) (xs : List X) (p : X) (k : ℕ) → slice_get (y ∷ xs) k ≡ Some p → (y ≡ p) ⊎ Has xs p
  cons-cases y xs p zero e = inl (same_Some y p e)
  cons-cases y xs p (suc k) e = inr (k, e)

  cond-has : (b : Bool) (y : X) (xs : List X) (p : X) → Has xs p → Has (cond b (y ∷ xs) xs) p
  cond-has true y xs p h = (suc h.0, h.1)
  cond-has false y xs p h = h

module _ {N : Type 0} where
  cons-once : (y : ℕ × N) (xs : List (ℕ × N)) → IsOnce xs → ((p : ℕ × N) → Has xs p → p.0 < y.0) → (i j : ℕ) (p : ℕ × N) → slice_get (y ∷ xs) i ≡ Some p → slice_get (y ∷ xs) j ≡ Some p → i ≡ j
  cons-once y xs w low zero zero p a b = refl
  cons-once y xs w low zero (suc j) p a b = let lt : p.0 < y.0 = low p (j, b) in let e : y.0 ≡ p.0 = ap (λ z. z.0) (same_Some y p a) in absurd (omega arith)
  cons-once y xs w low (suc i) zero p a b = let lt : p.0 < y.0 = low p (i, a) in let e : y.0 ≡ p.0 = ap (λ z. z.0) (same_Some y p b) in absurd (omega arith)
  cons-once y xs w low (suc i) (suc j) p a b = ap suc (w i j p a b)

  cond-once : (b : Bool) (y : ℕ × N) (xs : List (ℕ × N)) → IsOnce xs → ((p : ℕ × N) → Has xs p → p.0 < y.0) → IsOnce (cond b (y ∷ xs) xs)
  cond-once true y xs w low = cons-once y xs w low
  cond-once false y xs w low = w

module _ {N : Type 0} (place : N → ℕ) (one : (u v : N) → place u ≡ place v → u ≡ v) (arcs : List (N × N)) where
  -- an arc from u at k stands first
  below-yes : (u v : N) (k : ℕ) → IsArc arcs k u v → arcs_below place arcs u (suc k) ≡ (k, v) ∷ arcs_below place arcs u k
  below-yes u v k e = ap (λ z. with_arc place arcs k u z (arcs_below place arcs u k)) e ∙
      ap (λ b. cond b ((k, v) ∷ arcs_below place arcs u k) (arcs_below place arcs u k)) (nat_eq-same (place u) (place u) refl)

  with-no : (u : N) (k : ℕ) (e : Option (N × N)) (xs : List (ℕ × N)) → ((v : N) → e ≡ Some (u, v) → ⊥) → with_arc place arcs k u e xs ≡ xs
  with-no u k None xs h = refl
  with-no u k (Some e) xs h = ap (λ b. cond b ((k, e.1) ∷ xs) xs) (nat_eq-other (place e.0) (place u) (λ q. h e.1 (ap (λ z. Some (z, e.1)) (one e.0 u q))))

  -- no arc from u at k adds nothing
  below-no : (u : N) (k : ℕ) → ((v : N) → IsArc arcs k u v → ⊥) → arcs_below place arcs u (suc k) ≡ arcs_below place arcs u k
  below-no u k h = with-no u k (slice_get arcs k) (arcs_below place arcs u k) h

  below-none : (u : N) (high : ℕ) → NoArcIn arcs u 0 high → arcs_below place arcs u high ≡ []
  below-none u zero h = refl
  below-none u (suc k) h = below-no u k (λ v. h k v (omega arith) (omega arith)) ∙ below-none u k (λ j v lo hi. h j v lo (omega arith))

  below-until : (u v : N) (m high : ℕ) → m < high → IsArc arcs m u v → NoArcIn arcs u (suc m) high → arcs_below place arcs u high ≡ (m, v) ∷ arcs_below place arcs u m
  below-until u v m zero lt e h = absurd (omega arith)
  below-until u v m (suc k) lt e h = elim (cases_eq m k) [
    | inl q ↦ subst (λ z. arcs_below place arcs u (suc z) ≡ (m, v) ∷ arcs_below place arcs u m) q (below-yes u v m e)
    | inr ne ↦ below-no u k (λ w. h k w (omega arith) (omega arith)) ∙ below-until u v m k (omega arith) e (λ j w lo hi. h j w lo (omega arith))
  ]

  with-has : (u : N) (k : ℕ) (e : Option (N × N)) (xs : List (ℕ × N)) (p : ℕ × N) → Has xs p → Has (with_arc place arcs k u e xs) p
  with-has u k None xs p h = h
  with-has u k (Some e) xs p h = cond-has (nat_eq (place e.0) (place u)) (k, e.1) xs p h

  with-cases : (u : N) (k : ℕ) (e : Option (N × N)) (xs : List (ℕ × N)) (p : ℕ × N) → Has (with_arc place arcs k u e xs) p → Has xs p ⊎ ((k ≡ p.0) × (e ≡ Some (u, p.1)))
  with-cases u k None xs p h = inl h
  with-cases u k (Some e) xs p h = elim (eqb_tells (place e.0) (place u)) [
    | inl t ↦ (let h' = subst (λ b. Has (cond b ((k, e.1) ∷ xs) xs) p) t.0 h in elim (cons-cases (k, e.1) xs p h'.0 h'.1) [
      | inl q ↦ inr (ap (λ z. z.0) q, ap (λ z. Some (z, e.1)) (one e.0 u t.1) ∙ ap (λ z. Some (u, z.1)) q)
      | inr r ↦ inl r
    ])
    | inr f ↦ inl (subst (λ b. Has (cond b ((k, e.1) ∷ xs) xs) p) f.0 h)
  ]

  pub below-has : (u h : N) (high k : ℕ) → k < high → IsArc arcs k u h → Has (arcs_below place arcs u high) (k, h)
  below-has u h zero k lt e = absurd (omega arith)
  below-has u h (suc m) k lt e = elim (cases_eq k m) [
    | inl q ↦ subst (λ z. Has z (k, h)) (sym (below-yes u h m (subst (λ z. IsArc arcs z u h) q e))) (0, ap (λ z. Some (z, h)) (sym q))
    | inr ne ↦ with-has u m (slice_get arcs m) (arcs_below place arcs u m) (k, h) (below-has u h m k (omega arith) e)
  ]

  pub below-is : (u : N) (high : ℕ) (p : ℕ × N) → Has (arcs_below place arcs u high) p → (p.0 < high) × IsArc arcs p.0 u p.1
  below-is u zero p h = (let bad : None ≡ Some p = h.1 in cc)
  below-is u (suc m) p h = elim (with-cases u m (slice_get arcs m) (arcs_below place arcs u m) p h) [
    | inl r ↦ (let w = below-is u m p r in let lt : p.0 < m = w.0 in (omega arith, w.1))
    | inr r ↦ (let e : m ≡ p.0 = r.0 in (omega arith, subst (λ z. IsArc arcs z u p.1) e r.1))
  ]

  with-once : (u : N) (k : ℕ) (e : Option (N × N)) (xs : List (ℕ × N)) → IsOnce xs → ((p : ℕ × N) → Has xs p → p.0 < k) → IsOnce (with_arc place arcs k u e xs)
  with-once u k None xs w low = w
  with-once u k (Some e) xs w low = cond-once (nat_eq (place e.0) (place u)) (k, e.1) xs w low

  pub below-once : (u : N) (high : ℕ) → IsOnce (arcs_below place arcs u high)
  below-once u zero = λ i j p a. (let bad : None ≡ Some p = a in cc)
  below-once u (suc m) = with-once u m (slice_get arcs m) (arcs_below place arcs u m) (below-once u m) (λ p h. (below-is u m p h).0)

module _ {N A : Type 0} (place : N → ℕ) (one : (u v : N) → place u ≡ place v → u ≡ v) (spot : A → ℕ) (arcs : List (N × N)) where
  on-arc : (a : A) (u v : N) → IsArc arcs (spot a) u v → arcs_on place spot arcs (Some a) ≡ (spot a, v) ∷ arcs_below place arcs u (spot a)
  on-arc a u v e = ap (λ z. from_arc place spot arcs (spot a) z) e

  pub on-latest : (u : N) (high : ℕ) (r : Option A) → IsLatest spot arcs u high r → arcs_on place spot arcs r ≡ arcs_below place arcs u high
  on-latest u high None l = sym (below-none place one arcs u high l)
  on-latest u high (Some a) l = on-arc a u l.1.0 l.1.1 ∙ sym (below-until place one arcs u l.1.0 (spot a) high l.0 l.1.1 l.2)

  pub on-step : (a : A) (e : N × N) (r next : Option A) → next ≡ Some a → IsArc arcs (spot a) e.0 e.1 → IsLatest spot arcs e.0 (spot a) r →
      arcs_on place spot arcs next ≡ (spot a, e.1) ∷ arcs_on place spot arcs r
  on-step a e r next is arc latest = ap (λ z. arcs_on place spot arcs z) is ∙ on-arc a e.0 e.1 arc ∙ ap (λ z. (spot a, e.1) ∷ z) (sym (on-latest e.0 (spot a) r latest))

  pub latest-can : (u : N) (high : ℕ) (r : Option A) → IsLatest spot arcs u high r → IfSome r (λ a. spot a < length arcs)
  latest-can u high None l = tt
  latest-can u high (Some a) l = slice_get_within arcs (spot a) (u, l.1.0) l.1.1

  on-exact : (u : N) (r : Option A) → IsLatest spot arcs u (length arcs) r → (k : ℕ) (h : N) → Has (arcs_on place spot arcs r) (k, h) ↔ IsArc arcs k u h
  on-exact u r latest k h = subst (λ z. Has z (k, h) ↔ IsArc arcs k u h) (sym (on-latest u (length arcs) r latest))
      ((λ w. (below-is place one arcs u (length arcs) (k, h) w).1), (λ e. below-has place one arcs u h (length arcs) k (slice_get_within arcs k (u, h) e) e))

  pub on-exact_Contains : (u : N) (r : Option A) → IsLatest spot arcs u (length arcs) r → (k : ℕ) (h : N) → Contains (arcs_on place spot arcs r) (k, h) ↔ IsArc arcs k u h
  on-exact_Contains u r latest k h = let w = on-exact u r latest k h in
      ((λ c. w.0 (has-from_Contains (arcs_on place spot arcs r) (k, h) c)), (λ e. Contains-from_has (arcs_on place spot arcs r) (k, h) (w.1 e)))

  pub on-once : (u : N) (r : Option A) → IsLatest spot arcs u (length arcs) r → IsOnce (arcs_on place spot arcs r)
  on-once u r latest = subst (λ z. IsOnce z) (sym (on-latest u (length arcs) r latest)) (below-once place one arcs u (length arcs))
