-- Members of lists, by recursion.
use Rattle.std.proofs.Common.{◌≡◌, ℕ, zero, suc, ◌+◌, ◌⊎◌, inl, inr, Bool, true, List, [], ◌∷◌, ◌++◌, Some, take, map, filter, flat_map, refl, sym, ap, ◌∙◌, subst, arith, All, Contains}
use Rattle.std.specs.Prelude.{slice_get}
use Rattle.std.specs.List.{list_any}
use Rattle.std.proofs.lemmas.Bool.{false≢true, cases_Bool, or_cases, or_left, or_right}
use Rattle.std.proofs.lemmas.List.Elements.{All-head, All-tail, All-push}
use Rattle.std.proofs.lemmas.Option.{same_Some}

module _ {X : Type 0} where
  abbrev pub In : X → List X → Type 0
  In x [] = ⊥
  In x (y ∷ ys) = (y ≡ x) ⊎ In x ys

  pub In-append_left : (x : X) (xs ys : List X) → In x xs → In x (xs ++ ys)
  In-append_left x [] ys h = absurd h
  In-append_left x (y ∷ xs) ys (inl e) = inl e
  In-append_left x (y ∷ xs) ys (inr h) = inr (In-append_left x xs ys h)

  pub In-append_right : (x : X) (xs ys : List X) → In x ys → In x (xs ++ ys)
  In-append_right x [] ys h = h
  In-append_right x (y ∷ xs) ys h = inr (In-append_right x xs ys h)

  pub In-append_cases : (x : X) (xs ys : List X) → In x (xs ++ ys) → In x xs ⊎ In x ys
  In-append_cases x [] ys h = inr h
  In-append_cases x (y ∷ xs) ys (inl e) = inl (inl e)
  In-append_cases x (y ∷ xs) ys (inr h) = elim (In-append_cases x xs ys h) [ inl l ↦ inl (inr l) | inr r ↦ inr r ]

  pub In-filter : (p : X → Bool) (x : X) (xs : List X) → In x xs → p x ≡ true → In x (filter p xs)
  In-filter p x [] h t = absurd h
  In-filter p x (y ∷ xs) (inl e) t = let u : p y ≡ true = rw e t in rw u (inl e)
  In-filter p x (y ∷ xs) (inr h) t = elim (cases_Bool (p y)) [
    | inl u ↦ rw u (inr (In-filter p x xs h t))
    | inr n ↦ rw n (In-filter p x xs h t)
  ]

  pub filter-In : (p : X → Bool) (x : X) (xs : List X) → In x (filter p xs) → In x xs × (p x ≡ true)
  filter-In p x [] h = absurd h
  filter-In p x (y ∷ xs) h = elim (cases_Bool (p y)) [
    | inl u ↦ elim (kept u (rw u at h)) [ inl e ↦ (inl e, subst (λ z. p z ≡ true) e u) | inr r ↦ (let k = filter-In p x xs r in (inr k.0, k.1)) ]
    | inr n ↦ (let k = filter-In p x xs (rw n at h) in (inr k.0, k.1))
  ]
    where
      kept : (u : p y ≡ true) → (y ≡ x) ⊎ In x (filter p xs) → (y ≡ x) ⊎ In x (filter p xs)
      kept u h = h

  pub In-list_any : (p : X → Bool) (x : X) (xs : List X) → In x xs → p x ≡ true → list_any p xs ≡ true
  In-list_any p x [] h t = absurd h
  In-list_any p x (y ∷ xs) (inl e) t = or_left (p y) (list_any p xs) (rw e t)
  In-list_any p x (y ∷ xs) (inr h) t = or_right (p y) (list_any p xs) (In-list_any p x xs h t)

  pub list_any-In : (p : X → Bool) (xs : List X) → list_any p xs ≡ true → (x : X) × In x xs × (p x ≡ true)
  list_any-In p [] t = absurd (false≢true t)
  list_any-In p (y ∷ xs) t = elim (or_cases (p y) (list_any p xs) t) [
    | inl u ↦ (y, inl refl, u)
    | inr u ↦ (let k = list_any-In p xs u in (k.0, inr k.1, k.2))
  ]

  pub In-get : (x : X) (xs : List X) → In x xs → (k : ℕ) × (slice_get xs k ≡ Some x)
  In-get x [] h = absurd h
  In-get x (y ∷ xs) (inl e) = (0, rw e refl)
  In-get x (y ∷ xs) (inr h) = let k = In-get x xs h in (suc k.0, k.1)

  pub get-In : (xs : List X) (k : ℕ) (x : X) → slice_get xs k ≡ Some x → In x xs
  get-In [] k x h = absurd (cc h)
  get-In (y ∷ xs) zero x h = inl (same_Some _ _ h)
  get-In (y ∷ xs) (suc k) x h = inr (get-In xs k x h)

  pub In-Contains : (x : X) (xs : List X) → In x xs → Contains xs x
  In-Contains x [] h = absurd h
  In-Contains x (y ∷ xs) (inl e) = (0, omega arith, e)
  In-Contains x (y ∷ xs) (inr h) = let k = In-Contains x xs h in (suc k.0, omega (arith, k.1), k.2)

  pub Contains-In : (x : X) (xs : List X) → Contains xs x → In x xs
  Contains-In x [] (k, below, e) = absurd (omega (arith, below))
  Contains-In x (y ∷ xs) (zero, below, e) = inl e
  Contains-In x (y ∷ xs) (suc k, below, e) = inr (Contains-In x xs (k, omega (arith, below), e))

  pub All-In : (P : X → Type 0) (xs : List X) → All P xs → (x : X) → In x xs → P x
  All-In P [] a x h = absurd h
  All-In P (y ∷ xs) a x (inl e) = subst P e (All-head P y xs a)
  All-In P (y ∷ xs) a x (inr h) = All-In P xs (All-tail P y xs a) x h

module _ {X Y : Type 0} (f : X → List Y) where
  pub In-flat_map : (x : X) (y : Y) (xs : List X) → In x xs → In y (f x) → In y (flat_map f xs)
  In-flat_map x y [] h k = absurd h
  In-flat_map x y (z ∷ xs) (inl e) k = In-append_left y (f z) (flat_map f xs) (rw e k)
  In-flat_map x y (z ∷ xs) (inr h) k = In-append_right y (f z) (flat_map f xs) (In-flat_map x y xs h k)

  pub flat_map-In : (y : Y) (xs : List X) → In y (flat_map f xs) → (x : X) × In x xs × In y (f x)
  flat_map-In y [] h = absurd h
  flat_map-In y (z ∷ xs) h = elim (In-append_cases y (f z) (flat_map f xs) h) [
    | inl k ↦ (z, inl refl, k)
    | inr k ↦ (let r = flat_map-In y xs k in (r.0, inr r.1, r.2))
  ]

pub In-map : {X Y : Type 0} (f : X → Y) (x : X) (xs : List X) → In x xs → In (f x) (map f xs)
In-map f x [] h = absurd h
In-map f x (y ∷ xs) (inl e) = inl (rw e refl)
In-map f x (y ∷ xs) (inr h) = inr (In-map f x xs h)

pub map-In : {X Y : Type 0} (f : X → Y) (y : Y) (xs : List X) → In y (map f xs) → (x : X) × In x xs × (f x ≡ y)
map-In f y [] h = absurd h
map-In f y (x ∷ xs) (inl e) = (x, inl refl, e)
map-In f y (x ∷ xs) (inr h) = let r = map-In f y xs h in (r.0, inr r.1, r.2)

module _ {X : Type 0} where
  pub take_get : (xs : List X) (k : ℕ) (x : X) → slice_get xs k ≡ Some x → take (k + 1) xs ≡ take k xs ++ x ∷ []
  take_get [] k x h = absurd (cc h)
  take_get (y ∷ xs) zero x h = ap (λ (z : X). z ∷ []) (same_Some _ _ h)
  take_get (y ∷ xs) (suc k) x h =
      let e : suc k + 1 ≡ suc (k + 1) = omega arith in ap (λ n. take n (y ∷ xs)) e ∙ ap (λ (l : List X). y ∷ l) (take_get xs k x h)

  pub All-take_get : (P : X → Type 0) (xs : List X) (k : ℕ) (x : X) → slice_get xs k ≡ Some x → All P (take k xs) → P x → All P (take (k + 1) xs)
  All-take_get P xs k x h a p = subst (All P) (sym (take_get xs k x h)) (All-push P (take k xs) x a p)
