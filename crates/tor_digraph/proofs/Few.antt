-- Different things, each with a number below n, are at most n.
use Rattle.std.proofs.Common.{◌≡◌, ℕ, suc, ◌<◌, ◌≤◌, inl, inr, List, [], ◌∷◌, Some, true, false, length, refl, sym, subst, arith}
use Rattle.std.specs.Prelude.{slice_get, map}
use Rattle.std.specs.List.{AllByRecursion, IsDistinct, list_any}
use Rattle.std.proofs.Math.Dec.{eqb}
use Rattle.std.proofs.lemmas.Bool.{false≢true}
use Rattle.std.proofs.lemmas.Bool.Decides.{eqb_tells}
use Rattle.std.proofs.lemmas.List.{length-map}
use Rattle.std.proofs.lemmas.Map.Steps.{length-le_from_distinct_below}

eqb-not : (a b : ℕ) → (a ≡ b → ⊥) → eqb a b ≡ false
eqb-not a b h = elim (eqb_tells a b) [ inl p ↦ absurd (h p.1) | inr p ↦ p.0 ]

module _ {X : Type 0} (f : X → ℕ) where
  all-other : (q : ℕ) (xs : List X) → ((k : ℕ) (y : X) → slice_get xs k ≡ Some y → q ≡ f y → ⊥) → AllByRecursion (λ y. eqb q y ≡ false) (map f xs)
  all-other q [] h = tt
  all-other q (x ∷ xs) h = (eqb-not q (f x) (h 0 x refl), all-other q xs (λ k y at. h (suc k) y at))

  distinct : (xs : List X) → ((i j : ℕ) (x y : X) → i < j → slice_get xs i ≡ Some x → slice_get xs j ≡ Some y → f x ≡ f y → ⊥) → IsDistinct eqb (map f xs)
  unfolding IsDistinct
  distinct [] h = tt
  distinct (x ∷ xs) h = (all-other (f x) xs (λ k y at. h 0 (suc k) x y (omega arith) refl at), distinct xs (λ i j a b lt. h (suc i) (suc j) a b (omega arith)))

  found-in : (q : ℕ) (xs : List X) → list_any (eqb q) (map f xs) ≡ true → (k : ℕ) × (x : X) × (slice_get xs k ≡ Some x) × (f x ≡ q)
  found-in q [] t = absurd (false≢true t)
  found-in q (x ∷ xs) t = elim (eqb_tells q (f x)) [
    | inl p ↦ (0, x, refl, sym p.1)
    | inr p ↦ (let r = found-in q xs (rw p.0 at t) in (suc r.0, r.1, r.2, r.3))
  ]

  pub few : (xs : List X) (n : ℕ) → ((i j : ℕ) (x y : X) → i < j → slice_get xs i ≡ Some x → slice_get xs j ≡ Some y → f x ≡ f y → ⊥) →
      ((k : ℕ) (x : X) → slice_get xs k ≡ Some x → f x < n) → length xs ≤ n
  few xs n apart below =
      subst (λ m. m ≤ n) (length-map xs f) (length-le_from_distinct_below (map f xs) n (distinct xs apart) (λ q t. (let r = found-in q xs t in subst (λ m. m < n) r.3 (below r.0 r.1 r.2))))
