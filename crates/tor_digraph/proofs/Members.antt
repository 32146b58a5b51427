-- What is in a list that grows at its end, and what code reads of a list.
use Rattle.std.proofs.Common.{◌≡◌, ℕ, ◌<◌, ◌⊎◌, inl, inr, List, [], ◌∷◌, ◌++◌, Option, Some, None, length, get_or, refl, subst, Contains}
use Rattle.std.specs.Prelude.{slice_get, IsSome, IsNone}
use Rattle.std.proofs.lemmas.Option.{slice_get_read}
use Rattle.tor_arena.proofs.Gets.{has-from_Contains, Contains-from_has, slice_get-push_old, slice_get-push_cases, slice_get-push_last}

pub Contains-more : {X : Type 0} (xs ys : List X) (x : X) → Contains xs x → Contains (xs ++ ys) x
Contains-more xs ys x h = let has = has-from_Contains xs x h in Contains-from_has (xs ++ ys) x (has.0, slice_get-push_old xs ys has.0 x has.1)

pub Contains-last : {X : Type 0} (xs : List X) (x : X) → Contains (xs ++ x ∷ []) x
Contains-last xs x = Contains-from_has (xs ++ x ∷ []) x (length xs, slice_get-push_last xs x)

pub Contains-one_more : {X : Type 0} (xs : List X) (y x : X) → Contains (xs ++ y ∷ []) x → Contains xs x ⊎ (x ≡ y)
Contains-one_more xs y x h =
    let has = has-from_Contains (xs ++ y ∷ []) x h in
    elim (slice_get-push_cases xs y has.0 x has.1) [ inl old ↦ inl (Contains-from_has xs x (has.0, old)) | inr new ↦ inr new.1 ]

-- ---- what code reads of a list

pub read-at : {X : Type 0} (xs ys : List X) (i : ℕ) (x : X) → ys ≡ xs → x ≡ get_or ys i x → i < length xs → slice_get xs i ≡ Some x
read-at xs ys i x e is lt = slice_get_read xs (length xs) i x refl lt (subst (λ zs. x ≡ get_or zs i x) e is)

pub read-there : {X : Type 0} (xs ys : List X) (i : ℕ) (x : X) → ys ≡ xs → x ≡ get_or ys i x → i < length xs → Contains xs x
read-there xs ys i x e is lt = Contains-from_has xs x (i, read-at xs ys i x e is lt)

pub some-if_not_none : {X : Type 0} (r : Option X) → (IsNone r → ⊥) → IsSome r
some-if_not_none None not = absurd (not refl)
some-if_not_none (Some x) not = refl
