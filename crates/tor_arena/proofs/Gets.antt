-- What a list has at a place, after the list has changed.
use Rattle.std.proofs.Common.{◌≡◌, ◌≢◌, ℕ, zero, suc, ◌+◌, ◌<◌, ◌⊎◌, inl, inr, List, [], ◌∷◌, ◌++◌, Some, length, take, map, set, get_or, refl, sym, ap, ◌∙◌, arith}
use Rattle.std.specs.Prelude.{slice_get, replicate, Contains, All}
use Rattle.std.proofs.lemmas.List.{take_more, get_or-map, length-map}
use Rattle.std.proofs.lemmas.List.Elements.{Contains-push_cases, All-contains}
use Rattle.std.proofs.lemmas.Option.{slice_get_read, slice_get_within, get_or_from_slice_get, slice_get-get_or}

module _ {X : Type 0} where
  -- x stands in some place
  abbrev pub Has : List X → X → Type 0
  Has xs x = (k : ℕ) × (slice_get xs k ≡ Some x)

  pub has-from_Contains : (xs : List X) (x : X) → Contains xs x → Has xs x
  has-from_Contains xs x h = (h.0, slice_get_read xs (length xs) h.0 x refl h.1 (sym h.2))

  pub slice_get-push_old : (xs ys : List X) (k : ℕ) (x : X) → slice_get xs k ≡ Some x → slice_get (xs ++ ys) k ≡ Some x
  slice_get-push_old [] ys k x e = cc
  slice_get-push_old (a ∷ xs) ys zero x e = e
  slice_get-push_old (a ∷ xs) ys (suc k) x e = slice_get-push_old xs ys k x e

  pub slice_get-push_cases : (xs : List X) (y : X) (k : ℕ) (x : X) → slice_get (xs ++ y ∷ []) k ≡ Some x → (slice_get xs k ≡ Some x) ⊎ ((k ≡ length xs) × (x ≡ y))
  slice_get-push_cases [] y zero x e = inr (refl, cc)
  slice_get-push_cases [] y (suc k) x e = inl e
  slice_get-push_cases (a ∷ xs) y zero x e = inl e
  slice_get-push_cases (a ∷ xs) y (suc k) x e = elim (slice_get-push_cases xs y k x e) [ inl h ↦ inl h | inr h ↦ inr (ap suc h.0, h.1) ]

  pub slice_get-behind : (xs : List X) (y : X) (ys : List X) → slice_get (xs ++ y ∷ ys) (length xs) ≡ Some y
  slice_get-behind [] y ys = refl
  slice_get-behind (a ∷ xs) y ys = slice_get-behind xs y ys

  pub slice_get-push_last : (xs : List X) (y : X) → slice_get (xs ++ y ∷ []) (length xs) ≡ Some y
  slice_get-push_last xs y = slice_get-behind xs y []

  pub slice_get-some : (xs : List X) (k : ℕ) → k < length xs → (x : X) × (slice_get xs k ≡ Some x)
  slice_get-some [] k h = absurd (omega arith)
  slice_get-some (a ∷ xs) zero h = (a, refl)
  slice_get-some (a ∷ xs) (suc k) h = slice_get-some xs k (omega arith)

  pub slice_get-take : (m : ℕ) (xs : List X) (k : ℕ) (x : X) → slice_get (take m xs) k ≡ Some x → (k < m) × (slice_get xs k ≡ Some x)
  slice_get-take zero xs k x e = cc
  slice_get-take (suc m) [] k x e = cc
  slice_get-take (suc m) (a ∷ xs) zero x e = (omega arith, e)
  slice_get-take (suc m) (a ∷ xs) (suc k) x e = let r : (k < m) × (slice_get xs k ≡ Some x) = slice_get-take m xs k x e in (omega arith, r.1)

  pub slice_get-take_back : (m : ℕ) (xs : List X) (k : ℕ) (x : X) → k < m → slice_get xs k ≡ Some x → slice_get (take m xs) k ≡ Some x
  slice_get-take_back zero xs k x h e = absurd (omega arith)
  slice_get-take_back (suc m) [] k x h e = e
  slice_get-take_back (suc m) (a ∷ xs) zero x h e = e
  slice_get-take_back (suc m) (a ∷ xs) (suc k) x h e = slice_get-take_back m xs k x (omega arith) e

  pub slice_get-set_cases : (xs : List X) (i : ℕ) (y : X) (k : ℕ) (x : X) → slice_get (set xs i y) k ≡ Some x → ((k ≡ i) × (x ≡ y)) ⊎ ((k ≢ i) × (slice_get xs k ≡ Some x))
  slice_get-set_cases [] i y k x e = cc
  slice_get-set_cases (a ∷ xs) zero y zero x e = inl (refl, cc)
  slice_get-set_cases (a ∷ xs) zero y (suc k) x e = inr ((λ q. omega arith), e)
  slice_get-set_cases (a ∷ xs) (suc i) y zero x e = inr ((λ q. omega arith), e)
  slice_get-set_cases (a ∷ xs) (suc i) y (suc k) x e = elim (slice_get-set_cases xs i y k x e) [ inl h ↦ inl (ap suc h.0, h.1) | inr h ↦ inr ((λ q. h.0 (omega arith)), h.1) ]

  pub slice_get-set_other : (xs : List X) (i : ℕ) (y : X) (k : ℕ) → k ≢ i → slice_get (set xs i y) k ≡ slice_get xs k
  slice_get-set_other [] i y k h = refl
  slice_get-set_other (a ∷ xs) zero y zero h = absurd (h refl)
  slice_get-set_other (a ∷ xs) zero y (suc k) h = refl
  slice_get-set_other (a ∷ xs) (suc i) y zero h = refl
  slice_get-set_other (a ∷ xs) (suc i) y (suc k) h = slice_get-set_other xs i y k (λ q. h (ap suc q))

  pub slice_get-set_same : (xs : List X) (i : ℕ) (y : X) → i < length xs → slice_get (set xs i y) i ≡ Some y
  slice_get-set_same [] i y h = absurd (omega arith)
  slice_get-set_same (a ∷ xs) zero y h = refl
  slice_get-set_same (a ∷ xs) (suc i) y h = slice_get-set_same xs i y (omega arith)

  pub slice_get-replicate : (n : ℕ) (y : X) (k : ℕ) (x : X) → slice_get (replicate n y) k ≡ Some x → x ≡ y
  slice_get-replicate zero y k x e = cc
  slice_get-replicate (suc n) y zero x e = cc
  slice_get-replicate (suc n) y (suc k) x e = slice_get-replicate n y k x e

  pub slice_get-append_cases : (xs ys : List X) (k : ℕ) (x : X) → slice_get (xs ++ ys) k ≡ Some x → (slice_get xs k ≡ Some x) ⊎ ((j : ℕ) × (k ≡ length xs + j) × (slice_get ys j ≡ Some x))
  slice_get-append_cases [] ys k x e = inr (k, omega arith, e)
  slice_get-append_cases (a ∷ xs) ys zero x e = inl e
  slice_get-append_cases (a ∷ xs) ys (suc k) x e = elim (slice_get-append_cases xs ys k x e) [ inl h ↦ inl h | inr h ↦ inr (h.0, omega arith, h.2) ]

  pub Contains-from_has : (xs : List X) (x : X) → Has xs x → Contains xs x
  Contains-from_has xs x h = (h.0, slice_get_within xs h.0 x h.1, get_or_from_slice_get xs h.0 x x h.1)

  pub Contains-none : (x : X) → Contains [] x → ⊥
  Contains-none x c = absurd (omega (arith, c.1))

  pub none-in : {xs : List X} {x : X} → xs ≡ [] → Contains xs x → ⊥
  none-in e h = let n = ap length e in let lt = h.1 in omega (arith, n, lt)

  pub Contains-one : (y x : X) → Contains (y ∷ []) x → y ≡ x
  Contains-one y x c = elim (Contains-push_cases [] y x c) [ inl h ↦ absurd (Contains-none x h) | inr e ↦ e ]

  -- the items up to the next, and it
  pub take_item : (xs : List X) (i : ℕ) (x : X) → i < length xs → x ≡ get_or xs i x → take (i + 1) xs ≡ take i xs ++ x ∷ []
  take_item xs i x lt is = take_more xs i x lt ∙ ap (λ y. take i xs ++ y ∷ []) (sym is)

  -- the item of a loop over a list that stands for ys
  pub item_of : (xs ys : List X) (i : ℕ) (x : X) → xs ≡ ys → i < length xs → x ≡ get_or xs i x → slice_get ys i ≡ Some x
  item_of xs ys i x e lt is = ap (λ l. slice_get l i) (sym e) ∙ slice_get_read xs (length xs) i x refl lt is

  pub take_get : (xs : List X) (i : ℕ) (x : X) → slice_get xs i ≡ Some x → take (i + 1) xs ≡ take i xs ++ x ∷ []
  take_get xs i x e = take_item xs i x (slice_get_within xs i x e) (sym (get_or_from_slice_get xs i x x e))

  pub All-get : (P : X → Type 0) (xs : List X) (i : ℕ) (x : X) → All P xs → slice_get xs i ≡ Some x → P x
  All-get P xs i x h e = All-contains P xs x h (Contains-from_has xs x (i, e))

-- ---- mapped lists

module _ {X Y : Type 0} (f : X → Y) where
  pub slice_get-map : (xs : List X) (k : ℕ) (x : X) → slice_get xs k ≡ Some x → slice_get (map f xs) k ≡ Some (f x)
  slice_get-map [] k x e = cc
  slice_get-map (a ∷ xs) zero x e = let same : a ≡ x = cc in ap (λ y. Some (f y)) same
  slice_get-map (a ∷ xs) (suc k) x e = slice_get-map xs k x e

  pub slice_get-unmap : (xs : List X) (k : ℕ) (y : Y) → slice_get (map f xs) k ≡ Some y → (x : X) × (slice_get xs k ≡ Some x) × (f x ≡ y)
  slice_get-unmap [] k y e = cc
  slice_get-unmap (a ∷ xs) zero y e = (a, refl, cc)
  slice_get-unmap (a ∷ xs) (suc k) y e = slice_get-unmap xs k y e

  pub Contains-map : (xs : List X) (x : X) → Contains xs x → Contains (map f xs) (f x)
  Contains-map xs x c =
      let many = length-map xs f in let lt = c.1 in
      (c.0, omega (arith, many, lt), get_or-map f xs c.0 x (f x) c.1 ∙ ap f c.2)

-- what a loop reads from a list that stands for ys
pub read_of : {X : Type 0} (xs ys : List X) (k : ℕ) (d : X) → xs ≡ ys → k < length xs → slice_get ys k ≡ Some (get_or xs k d)
read_of xs ys k d e lt = ap (λ l. slice_get l k) (sym e) ∙ slice_get-get_or xs k d lt
