-- The numbers of a set, which keeps their order, and their places.
use Rattle.std.proofs.Common.{◌≡◌, ◌<◌, ◌+◌, ℕ, suc, Bool, true, false, not, cond, nat_eq, nat_lt, List, [], ◌∷◌, ◌++◌, length, take, get_or, Option, Some, None, MatchOption, is_some, inl, inr}
use Rattle.std.proofs.Common.{refl, sym, ap, ◌∙◌, arith, eq-eqb, eqb-true, if◌then◌else◌}
use Rattle.std.specs.Prelude.{slice_get, Contains}
use Rattle.std.specs.List.{list_any, position, position_or_len, IsDistinct}
use Rattle.std.proofs.lemmas.Bool.{cases_Bool, both_ways, ltb-true}
use Rattle.std.proofs.lemmas.List.Folds.{list_any_at}
use Rattle.std.proofs.lemmas.Map.Keys.{apart_from_distinct}
use Rattle.std.proofs.lemmas.Option.{cond_some, slice_get_within, get_or_from_slice_get}
use Rattle.indexmap.specs.IndexSet.{insert_key}
use Rattle.indexmap.proofs.CallerLemmas.{Contains-list_any}
use Rattle.tor_arena.proofs.Gets.{has-from_Contains, slice_get-take}
use Rattle.tor_numbers.specs.Places.{GoesLastIfNew}
use Rattle.tor_numbers.specs.Slots.{IsApart}

module _ (n : ℕ) where
  any_there : (numbers : List ℕ) → Contains numbers n → list_any (nat_eq n) numbers ≡ true
  any_there numbers c = list_any_at (nat_eq n) numbers c.0 n c.1 (eq-eqb n (get_or numbers c.0 n) (sym c.2))

  there_any : (numbers : List ℕ) → list_any (nat_eq n) numbers ≡ true → Contains numbers n
  there_any numbers t = Contains-list_any nat_eq eqb-true numbers n t

  -- a number that is put into a set
  pub goes_last : (old new : List ℕ) → new ≡ insert_key nat_eq old n → GoesLastIfNew n old new
  goes_last old new is = elim (cases_Bool (list_any (nat_eq n) old)) [
    | inl t ↦ inl (there_any old t, is ∙ ap (λ b. if b then old else old ++ n ∷ []) t)
    | inr f ↦ inr ((λ c. both_ways (list_any (nat_eq n) old) f (any_there old c)), is ∙ ap (λ b. if b then old else old ++ n ∷ []) f)
  ]

  first_at : (numbers : List ℕ) → position_or_len (nat_eq n) numbers < length numbers → slice_get numbers (position_or_len (nat_eq n) numbers) ≡ Some n
  first_at [] lt = absurd (omega arith)
  first_at (x ∷ numbers) lt = by (nat_eq n x) refl lt (first_at numbers)
    where
      by : (b : Bool) → nat_eq n x ≡ b → cond (not b) (1 + position_or_len (nat_eq n) numbers) 0 < length (x ∷ numbers)
          → (position_or_len (nat_eq n) numbers < length numbers → slice_get numbers (position_or_len (nat_eq n) numbers) ≡ Some n)
          → slice_get (x ∷ numbers) (cond (not b) (1 + position_or_len (nat_eq n) numbers) 0) ≡ Some n
      by true same lt rest = ap (λ (m : ℕ). Some m) (sym (eqb-true n x same))
      by false same lt rest =
          let next : 1 + position_or_len (nat_eq n) numbers ≡ suc (position_or_len (nat_eq n) numbers) = omega arith in
          ap (slice_get (x ∷ numbers)) next ∙ rest (omega (arith, lt))

  -- where a set finds a number
  pub found_at : (numbers : List ℕ) (r : Option ℕ) → r ≡ position (nat_eq n) numbers → is_some r ≡ list_any (nat_eq n) numbers →
      MatchOption r (Contains numbers n → ⊥) (λ k. slice_get numbers k ≡ Some n)
  found_at numbers None is any = λ c. both_ways (list_any (nat_eq n) numbers) (sym any) (any_there numbers c)
  found_at numbers (Some k) is any =
      let first = cond_some (nat_lt (position_or_len (nat_eq n) numbers) (length numbers)) (position_or_len (nat_eq n) numbers) k (sym is) in
      ap (slice_get numbers) (sym first.1) ∙ first_at numbers (ltb-true (position_or_len (nat_eq n) numbers) (length numbers) first.0)

-- no number of a set stands twice
pub apart_by : (numbers : List ℕ) → IsDistinct nat_eq numbers → IsApart numbers
apart_by numbers once k n at c =
    let has = has-from_Contains (take k numbers) n c in
    let before = slice_get-take k numbers has.0 n has.1 in
    both_ways (nat_eq (get_or numbers has.0 n) (get_or numbers k n))
    (apart_from_distinct nat_eq numbers has.0 k n once before.0 (slice_get_within numbers k n at))
    (eq-eqb (get_or numbers has.0 n) (get_or numbers k n) (get_or_from_slice_get numbers has.0 n n before.1 ∙ sym (get_or_from_slice_get numbers k n n at)))
