-- AS numbers in tables.
use Rattle.std.proofs.Common.{◌≡◌, ℕ, zero, suc, ◌+◌, ◌<◌, inl, inr, true, false, Bool, List, [], ◌∷◌, ◌++◌, length, get_or, map, refl, sym, ap, ◌∙◌, subst, arith, All}
use Rattle.std.proofs.Common.{eq-eqb}
use Rattle.std.specs.Prelude.{Option, Some, None, slice_get, ◌==◌, ◌≢◌, cond, Contains}
use Rattle.std.specs.Option.{option_or}
use Rattle.std.specs.List.{AllPairs}
use Rattle.std.proofs.lemmas.Bool.{ne_eqb, eqb-true}
use Rattle.std.proofs.lemmas.List.{get_or-map, length-map, map_push}
use Rattle.std.proofs.lemmas.List.Folds.{find-append}
use Rattle.std.proofs.lemmas.List.Elements.{Contains-get_or, Contains-push, Contains-push_cases, Contains-append_left, All-tail}
use Rattle.std.proofs.lemmas.List.Quantifiers.{all_pairs_push}
use Rattle.std.proofs.lemmas.Option.{none-some, slice_get_within, get_or_from_slice_get}
use Rattle.tor_numbers.specs.Slots.{IsInserted}
use Rattle.drawing.specs.declared.standings.Standing.{Standing}
use Rattle.drawing.specs.Generations.{standing_of}
use Rattle.drawing.specs.Shifted.{AreNumbered, HasNumbers}

-- ---- the first AS with a number, where none stands twice

abbrev shifted_of : Standing → ℕ
shifted_of s = s.number + 2

first_one : (x : Standing) (xs : List Standing) (n : ℕ) → x.number ≡ n → standing_of n (x ∷ xs) ≡ Some x
first_one x xs n e = rw (eq-eqb x.number n e) refl

later_one : (x : Standing) (xs : List Standing) (n : ℕ) → x.number ≢ n → standing_of n (x ∷ xs) ≡ standing_of n xs
later_one x xs n ne = rw (ne_eqb x.number n ne) refl

first_is : (drawn : List Standing) (k n : ℕ) (d : Standing) → AllPairs (λ s t. s.number ≢ t.number) drawn → k < length drawn → (get_or drawn k d).number ≡ n →
    standing_of n drawn ≡ Some (get_or drawn k d)
first_is [] k n d once lt e = absurd (omega (arith, lt))
first_is (x ∷ xs) zero n d once lt e = first_one x xs n e
first_is (x ∷ xs) (suc k) n d once lt e =
    later_one x xs n (λ same. once 0 (suc k) d (omega arith) lt (same ∙ sym e))
    ∙ first_is xs k n d (λ i j f less few. once (suc i) (suc j) f (omega (arith, less)) (omega (arith, few))) (omega (arith, lt)) e

none_is : (drawn : List Standing) (n : ℕ) → All (λ s. s.number ≢ n) drawn → standing_of n drawn ≡ None
none_is [] n all = refl
none_is (x ∷ xs) n all = later_one x xs n (all 0 x (omega arith)) ∙ none_is xs n (All-tail (λ s. s.number ≢ n) x xs all)

-- ---- what a table finds

place_within : (numbers : List ℕ) (drawn : List Standing) (k n : ℕ) → AreNumbered numbers drawn → slice_get numbers k ≡ Some n → k < length drawn
place_within numbers drawn k n are e = subst (λ m. k < m) (ap length are.shifted ∙ length-map drawn shifted_of) (slice_get_within numbers k n e)

pub within : (numbers : List ℕ) (drawn : List Standing) (k n : ℕ) → AreNumbered numbers drawn → slice_get numbers k ≡ Some n → k < length drawn
within numbers drawn k n are e = place_within numbers drawn k n are e

pub found : (numbers : List ℕ) (drawn : List Standing) (k n : ℕ) (d : Standing) → AreNumbered numbers drawn → slice_get numbers k ≡ Some (n + 2) →
    standing_of n drawn ≡ Some (get_or drawn k d)
found numbers drawn k n d are e =
    let lt = place_within numbers drawn k (n + 2) are e in
    let read : (get_or drawn k d).number + 2 ≡ n + 2 = sym (get_or-map shifted_of drawn k d 0 lt) ∙ ap (λ xs. get_or xs k 0) (sym are.shifted) ∙ get_or_from_slice_get numbers k (n + 2) 0 e in
    first_is drawn k n d are.once lt (omega (arith, read))

contains_at : (drawn : List Standing) (k : ℕ) (d : Standing) → k < length drawn → Contains (map shifted_of drawn) ((get_or drawn k d).number + 2)
contains_at drawn k d lt =
    subst (Contains (map shifted_of drawn)) (get_or-map shifted_of drawn k d 0 lt)
    (Contains-get_or (map shifted_of drawn) k 0 (subst (λ m. k < m) (sym (length-map drawn shifted_of)) lt))

others : (numbers : List ℕ) (drawn : List Standing) (n : ℕ) → AreNumbered numbers drawn → (Contains numbers (n + 2) → ⊥) → All (λ s. s.number ≢ n) drawn
others numbers drawn n are not k d lt same =
    not (subst (λ xs. Contains xs (n + 2)) (sym are.shifted) (subst (λ m. Contains (map shifted_of drawn) (m + 2)) same (contains_at drawn k d lt)))

pub missing : (numbers : List ℕ) (drawn : List Standing) (n : ℕ) → AreNumbered numbers drawn → (Contains numbers (n + 2) → ⊥) → standing_of n drawn ≡ None
missing numbers drawn n are not = none_is drawn n (others numbers drawn n are not)

-- ---- what is added

pub numbered_push : (numbers new : List ℕ) (drawn : List Standing) (s : Standing) → AreNumbered numbers drawn → (Contains numbers (s.number + 2) → ⊥) →
    new ≡ numbers ++ (s.number + 2) ∷ [] → AreNumbered new (drawn ++ s ∷ [])
numbered_push numbers new drawn s are not e = record {
  shifted = e ∙ ap (λ xs. xs ++ (s.number + 2) ∷ []) are.shifted ∙ sym (map_push shifted_of drawn s);
  once = all_pairs_push (λ s t. s.number ≢ t.number) drawn s are.once (others numbers drawn s.number are not);
}

known_by : (drawn : List Standing) (s t : Standing) (n : ℕ) (o : Option Standing) → standing_of n drawn ≡ o → standing_of s.number drawn ≡ Some t → (b : Bool) →
    (s.number == n) ≡ b → o ≡ option_or o (cond b (Some s) None)
known_by drawn s t n (Some u) e is b f = refl
known_by drawn s t n None e is true f =
    let same = eqb-true s.number n f in absurd (none-some t (sym e ∙ ap (λ m. standing_of m drawn) (sym same) ∙ is))
known_by drawn s t n None e is false f = refl

-- a number that is there already changes nothing
pub known : (drawn : List Standing) (s t : Standing) → standing_of s.number drawn ≡ Some t → (n : ℕ) → standing_of n drawn ≡ standing_of n (drawn ++ s ∷ [])
known drawn s t is n =
    known_by drawn s t n (standing_of n drawn) refl is (s.number == n) refl ∙ sym (find-append (λ s. s.number == n) drawn (s ∷ []))

-- ---- sets

pub has_more : (set new numbers : List ℕ) (m : ℕ) (b : Bool) → HasNumbers set numbers → IsInserted (m + 2) set new b → HasNumbers new (numbers ++ m ∷ [])
has_more set new numbers m true has is n = (
  λ there. elim (Contains-push_cases set (m + 2) (n + 2) (subst (λ xs. Contains xs (n + 2)) is.1 there)) [
    | inl old ↦ Contains-append_left numbers (m ∷ []) n ((has n).0 old)
    | inr e ↦ let same : m ≡ n = omega (arith, e) in subst (Contains (numbers ++ m ∷ [])) same (Contains-push numbers m)
  ],
  λ there. subst (λ xs. Contains xs (n + 2)) (sym is.1) (elim (Contains-push_cases numbers m n there) [
    | inl old ↦ Contains-append_left set ((m + 2) ∷ []) (n + 2) ((has n).1 old)
    | inr e ↦ subst (λ k. Contains (set ++ (m + 2) ∷ []) (k + 2)) e (Contains-push set (m + 2))
  ]),
)
has_more set new numbers m false has is n = (
  λ there. Contains-append_left numbers (m ∷ []) n ((has n).0 (subst (λ xs. Contains xs (n + 2)) is.1 there)),
  λ there. subst (λ xs. Contains xs (n + 2)) (sym is.1) (elim (Contains-push_cases numbers m n there) [
    | inl old ↦ (has n).1 old
    | inr e ↦ subst (λ k. Contains set (k + 2)) e is.0
  ]),
)
