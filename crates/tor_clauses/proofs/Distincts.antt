-- Lists without the items that are the same as an earlier one.
use Rattle.std.proofs.Common.{◌≡◌, ℕ, zero, suc, Some, ◌⊎◌, inl, inr, Bool, true, false, not, List, [], ◌∷◌, ◌++◌, ◌||◌, filter, refl, sym, ap, ◌∙◌, subst, append_assoc, cond}
use Rattle.std.specs.Prelude.{if◌then◌else◌, slice_get}
use Rattle.std.specs.List.{list_any}
use Rattle.std.proofs.lemmas.Bool.{false≢true, cases_Bool, both_ways, or_parts, not-true, not_from_false, false_from_ne_true}
use Rattle.std.proofs.lemmas.List.{append-nil}
use Rattle.std.proofs.lemmas.List.Elements.{filter-append}
use Rattle.std.proofs.lemmas.Option.{same_Some}
use Rattle.tor_clauses.proofs.Members.{In, get-In, In-append_left, In-filter, filter-In, In-list_any, list_any-In}

module _ {X : Type 0} (same : X → X → Bool) where
  abbrev pub distinct_by : List X → List X
  distinct_by [] = []
  distinct_by (x ∷ xs) = x ∷ filter (λ y. not (same x y)) (distinct_by xs)

  abbrev pub with_one : List X → X → List X
  with_one ys x = if list_any (same x) ys then ys else ys ++ x ∷ []

  abbrev pub with_all : List X → List X → List X
  with_all ys [] = ys
  with_all ys (x ∷ xs) = with_all (with_one ys x) xs

  -- no item is the same as an earlier one
  abbrev pub Apart : List X → Type 0
  Apart [] = Unit {0}
  Apart (x ∷ xs) = ((y : X) → In y xs → same x y ≡ false) × Apart xs

  pub distinct-In : (x : X) (xs : List X) → In x (distinct_by xs) → In x xs
  distinct-In x [] h = absurd h
  distinct-In x (y ∷ xs) (inl e) = inl e
  distinct-In x (y ∷ xs) (inr h) = inr (distinct-In x xs (filter-In (λ z. not (same y z)) x (distinct_by xs) h).0)

  apart-filter : (p : X → Bool) (xs : List X) → Apart xs → Apart (filter p xs)
  apart-filter p [] a = tt
  apart-filter p (x ∷ xs) a = elim (cases_Bool (p x)) [
    | inl t ↦ rw t ((λ y h. a.0 y (filter-In p y xs h).0), apart-filter p xs a.1)
    | inr n ↦ rw n (apart-filter p xs a.1)
  ]

  pub apart-distinct : (xs : List X) → Apart (distinct_by xs)
  apart-distinct [] = tt
  apart-distinct (x ∷ xs) = (
    (λ y h. not-true (same x y) (filter-In (λ z. not (same x z)) y (distinct_by xs) h).1),
    apart-filter (λ z. not (same x z)) (distinct_by xs) (apart-distinct xs),
  )

  -- so none stands at two places
  pub apart-once : ((x y : X) → same x y ≡ true → same y x ≡ true) → (xs : List X) → Apart xs → (j k : ℕ) (x y : X) →
      slice_get xs j ≡ Some x → slice_get xs k ≡ Some y → same x y ≡ true → j ≡ k
  apart-once reversed [] a j k x y h g t = absurd (cc h)
  apart-once reversed (z ∷ xs) a zero zero x y h g t = refl
  apart-once reversed (z ∷ xs) a zero (suc k) x y h g t =
      absurd (both_ways (same z y) (a.0 y (get-In xs k y g)) (subst (λ w. same w y ≡ true) (sym (same_Some _ _ h)) t))
  apart-once reversed (z ∷ xs) a (suc j) zero x y h g t =
      absurd (both_ways (same z x) (a.0 x (get-In xs j x h)) (reversed x z (subst (λ w. same x w ≡ true) (sym (same_Some _ _ g)) t)))
  apart-once reversed (z ∷ xs) a (suc j) (suc k) x y h g t = ap suc (apart-once reversed xs a.1 j k x y h g t)

  -- ---- more items

  -- what is new stands behind what was there
  pub record IsMore (ys xs all : List X) : Type 0 where
    pub more : List X
    pub whole : all ≡ ys ++ more
    pub from : (x : X) → In x more → In x xs
    pub new : (x : X) → In x more → list_any (same x) ys ≡ false

  pub more-all : (xs ys : List X) → IsMore ys xs (with_all ys xs)
  more-all [] ys = record { more = []; whole = sym (append-nil ys); from = λ x h. absurd h; new = λ x h. absurd h }
  more-all (x ∷ xs) ys = elim (cases_Bool (list_any (same x) ys)) [
    | inl t ↦ (let r = more-all xs ys in rw t (record { more = r.more; whole = r.whole; from = (λ y h. inr (r.from y h)); new = r.new }))
    | inr n ↦ (let r = more-all xs (ys ++ x ∷ []) in rw n (record {
      more = x ∷ r.more;
      whole = r.whole ∙ append_assoc ys (x ∷ []) r.more;
      from = (λ y h. from_first x xs r.more r.from y h);
      new = (λ y h. new_first x xs ys r.more n r.new y h);
    }))
  ]
    where
      from_first : (x : X) (xs more : List X) → ((y : X) → In y more → In y xs) → (y : X) → (x ≡ y) ⊎ In y more → (x ≡ y) ⊎ In y xs
      from_first x xs more from y (inl e) = inl e
      from_first x xs more from y (inr h) = inr (from y h)

      new_first : (x : X) (xs ys more : List X) → list_any (same x) ys ≡ false → ((y : X) → In y more → list_any (same y) (ys ++ x ∷ []) ≡ false) →
          (y : X) → (x ≡ y) ⊎ In y more → list_any (same y) ys ≡ false
      new_first x xs ys more n new y (inl e) = subst (λ z. list_any (same z) ys ≡ false) e n
      new_first x xs ys more n new y (inr h) = false_from_ne_true (list_any (same y) ys) (λ t.
          let k = list_any-In (same y) ys t in
          both_ways (list_any (same y) (ys ++ x ∷ [])) (new y h) (In-list_any (same y) k.0 (ys ++ x ∷ []) (In-append_left k.0 ys (x ∷ []) k.1) k.2))

  -- ---- where the test is an equivalence

  module _
      (itself : (x : X) → same x x ≡ true)
      (reversed : (x y : X) → same x y ≡ true → same y x ≡ true)
      (chained : (x y z : X) → same x y ≡ true → same y z ≡ true → same x z ≡ true) where
    -- each item has the same one among the distinct ones
    pub In-distinct : (x : X) (xs : List X) → In x xs → (y : X) × In y (distinct_by xs) × (same y x ≡ true)
    In-distinct x [] h = absurd h
    In-distinct x (y ∷ xs) (inl e) = (y, inl refl, subst (λ z. same y z ≡ true) e (itself y))
    In-distinct x (y ∷ xs) (inr h) =
        let r = In-distinct x xs h in
        elim (cases_Bool (same y r.0)) [
          | inl t ↦ (y, inl refl, chained y r.0 x t r.2)
          | inr n ↦ (r.0, inr (In-filter (λ z. not (same y z)) r.0 (distinct_by xs) r.1 (not_from_false (same y r.0) n)), r.2)
        ]

    any-distinct : (x : X) (xs : List X) → list_any (same x) xs ≡ true → list_any (same x) (distinct_by xs) ≡ true
    any-distinct x xs t =
        let k = list_any-In (same x) xs t in
        let r = In-distinct k.0 xs k.1 in
        In-list_any (same x) r.0 (distinct_by xs) r.1 (chained x k.0 r.0 k.2 (reversed r.0 k.0 r.2))

    any-undistinct : (x : X) (xs : List X) → list_any (same x) xs ≡ false → list_any (same x) (distinct_by xs) ≡ false
    any-undistinct x xs n = false_from_ne_true (list_any (same x) (distinct_by xs)) (λ t.
        let k = list_any-In (same x) (distinct_by xs) t in
        both_ways (list_any (same x) xs) n (In-list_any (same x) k.0 xs (distinct-In k.0 xs k.1) k.2))

    kept_last : (x : X) (ys : List X) (e : X) → same x e ≡ false → filter (λ f. not (same x f)) (ys ++ e ∷ []) ≡ filter (λ f. not (same x f)) ys ++ e ∷ []
    kept_last x ys e h = filter-append (λ f. not (same x f)) ys (e ∷ []) ∙ ap (λ b. filter (λ f. not (same x f)) ys ++ cond (not b) (e ∷ []) []) h

    dropped_last : (x : X) (ys : List X) (e : X) → same x e ≡ true → filter (λ f. not (same x f)) (ys ++ e ∷ []) ≡ filter (λ f. not (same x f)) ys
    dropped_last x ys e h =
        filter-append (λ f. not (same x f)) ys (e ∷ []) ∙ ap (λ b. filter (λ f. not (same x f)) ys ++ cond (not b) (e ∷ []) []) h ∙
        append-nil (filter (λ f. not (same x f)) ys)

    push_new : (xs : List X) (e : X) → list_any (same e) xs ≡ false → distinct_by (xs ++ e ∷ []) ≡ distinct_by xs ++ e ∷ []
    push_new [] e h = refl
    push_new (x ∷ xs) e h =
        let p = or_parts (same e x) (list_any (same e) xs) h in
        let apart : same x e ≡ false = false_from_ne_true (same x e) (λ t. both_ways (same e x) p.0 (reversed x e t)) in
        ap (λ (l : List X). x ∷ l) (ap (filter (λ f. not (same x f))) (push_new xs e p.1) ∙ kept_last x (distinct_by xs) e apart)

    push_old : (xs : List X) (e : X) → list_any (same e) xs ≡ true → distinct_by (xs ++ e ∷ []) ≡ distinct_by xs
    push_old [] e h = absurd (false≢true h)
    push_old (x ∷ xs) e h =
        elim (cases_Bool (list_any (same e) xs)) [
          | inl t ↦ ap (λ (l : List X). x ∷ filter (λ f. not (same x f)) l) (push_old xs e t)
          | inr n ↦
              let one : same e x ≡ true = first_of_or (same e x) (list_any (same e) xs) h n in
              ap (λ (l : List X). x ∷ l) (ap (filter (λ f. not (same x f))) (push_new xs e n) ∙ dropped_last x (distinct_by xs) e (reversed e x one))
        ]
      where
        first_of_or : (s t : Bool) → (s || t) ≡ true → t ≡ false → s ≡ true
        first_of_or true t h n = refl
        first_of_or false t h n = absurd (both_ways t n h)

    one-distinct : (xs : List X) (e : X) → with_one (distinct_by xs) e ≡ distinct_by (xs ++ e ∷ [])
    one-distinct xs e = elim (cases_Bool (list_any (same e) xs)) [
      | inl t ↦ rw (any-distinct e xs t) (sym (push_old xs e t))
      | inr n ↦ rw (any-undistinct e xs n) (sym (push_new xs e n))
    ]

    pub all-distinct : (ys xs : List X) → with_all (distinct_by xs) ys ≡ distinct_by (xs ++ ys)
    all-distinct [] xs = ap distinct_by (sym (append-nil xs))
    all-distinct (y ∷ ys) xs =
        ap (λ (l : List X). with_all l ys) (one-distinct xs y) ∙ all-distinct ys (xs ++ y ∷ []) ∙ ap distinct_by (append_assoc xs (y ∷ []) ys)

  pub all-push : (xs ys : List X) (x : X) → with_all ys (xs ++ x ∷ []) ≡ with_one (with_all ys xs) x
  all-push [] ys x = refl
  all-push (z ∷ xs) ys x = all-push xs (with_one ys z) x
