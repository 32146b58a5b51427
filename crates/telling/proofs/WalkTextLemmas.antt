-- Lines that are put one by one, numbers joined by spaces, and the parts of a walk.
use Rattle.std.proofs.Common.{◌≡◌, ◌∙◌, ℕ, zero, suc, ◌+◌, ◌-◌, ◌<◌, ◌≤◌, ◌⊎◌, inl, inr, List, [], ◌∷◌, ◌++◌, length, take, map, get_or, slice_get, Some, min, refl, sym, ap, ap₂, append_assoc, arith}
use Rattle.std.specs.Prelude.{codes}
use Rattle.std.specs.Fmt.{decimal}
use Rattle.std.specs.List.{flat_map, join_with_byte}
use Rattle.std.proofs.Math.Nat.{min-le_left, min-le_right, min-eq_left, min-eq_right}
use Rattle.std.proofs.lemmas.List.{append-nil}
use Rattle.std.proofs.lemmas.Option.{slice_get_past}
use Rattle.tor_io.specs.Outflow.{State, Puts}
use Rattle.tor_io.proofs.Putting.{puts_as, puts_then}
use Rattle.relationships.specs.declared.walk.Link.{Link}
use Rattle.relationships.specs.Telling.{steps_of}
use Rattle.result_text.specs.Text.{numbers_text}
use Rattle.telling.specs.WalkText.{pair_row, if_there, numbered, step_with, begin_text, end_text}
use Rattle.telling.proofs.Chains.{last_two-few, last_two-read}

-- ---- the lesser of two numbers

total : (a b : ℕ) → (a ≤ b) ⊎ (b ≤ a)
total zero b = inl (omega arith)
total (suc a) zero = inr (omega arith)
total (suc a) (suc b) = elim (total a b) [ inl l ↦ inl (omega (arith, l)) | inr l ↦ inr (omega (arith, l)) ]

-- is below neither of them, and comes to one
pub lesser : {c : ℕ} (a b : ℕ) → c ≡ min a b → (c ≤ a) × (c ≤ b) × ((a ≤ c) ⊎ (b ≤ c))
lesser a b is = (
  omega (arith, is, min-le_left a b),
  omega (arith, is, min-le_right a b),
  elim (total a b) [ inl l ↦ inl (omega (arith, is, min-eq_left l)) | inr l ↦ inr (omega (arith, is, min-eq_right l)) ],
)

-- ---- item by item

module _ {X : Type 0} (text : X → List ℕ) where
  to-suc : (xs : List X) (k : ℕ) (x : X) → slice_get xs k ≡ Some x → flat_map text (take (suc k) xs) ≡ flat_map text (take k xs) ++ text x
  to-suc [] k x at = absurd cc
  to-suc (y ∷ ys) zero x at = let same : y ≡ x = cc in append-nil (text y) ∙ ap text same
  to-suc (y ∷ ys) (suc k) x at = ap (λ t. text y ++ t) (to-suc ys k x at) ∙ sym (append_assoc (text y) (flat_map text (take k ys)) (text x))

  pub one_more : (a b c : State) (xs : List X) (k : ℕ) (x : X) → slice_get xs k ≡ Some x → Puts a b (flat_map text (take k xs)) → Puts b c (text x)
      → Puts a c (flat_map text (take (k + 1) xs))
  one_more a b c xs k x at so_far more =
      let next : k + 1 ≡ suc k = omega arith in
      puts_as (puts_then so_far more) (sym (to-suc xs k x at) ∙ ap (λ n. flat_map text (take n xs)) (sym next))

-- numbers that are joined by spaces are the first and the others, each behind a space
pub joined : (ns : List ℕ) → join_with_byte 32 (map decimal ns) ≡ numbers_text ns
joined [] = refl
joined (n ∷ []) = sym (append-nil (decimal n))
joined (n ∷ m ∷ ns) = ap (λ t. decimal n ++ 32 ∷ t) (joined (m ∷ ns))

-- ---- walks

pub begin_read : (word ases : List ℕ) → 2 ≤ length ases → pair_row word (get_or ases 0 0) (get_or ases 1 0) ≡ begin_text word ases
begin_read word [] two = absurd (omega (arith, two))
begin_read word (a ∷ []) two = absurd (omega (arith, two))
begin_read word (a ∷ b ∷ ases) two = refl

pub begin_few : (word ases : List ℕ) → length ases < 2 → [] ≡ begin_text word ases
begin_few word [] few = refl
begin_few word (a ∷ []) few = refl
begin_few word (a ∷ b ∷ ases) few = absurd (omega (arith, few))

pub end_read : (ases : List ℕ) → 2 ≤ length ases → pair_row (codes "so") (get_or ases (length ases - 2) 0) (get_or ases (length ases - 1) 0) ≡ end_text ases
end_read ases two =
    sym (append-nil (pair_row (codes "so") (get_or ases (length ases - 2) 0) (get_or ases (length ases - 1) 0)))
    ∙ ap (flat_map (λ two. pair_row (codes "so") two.0 two.1)) (sym (last_two-read ases two))

pub end_few : (ases : List ℕ) → length ases < 2 → [] ≡ end_text ases
end_few ases few = ap (flat_map (λ two. pair_row (codes "so") two.0 two.1)) (sym (last_two-few ases few))

step_at : (ases : List ℕ) (links : List Link) (k : ℕ) (d : Link) → k < length links → suc (suc k) < length ases
    → slice_get (steps_of ases links) k ≡ Some (step_with (get_or ases (suc k) 0) (get_or ases (suc (suc k)) 0) (get_or links k d))
step_at [] links k d low in_front = absurd (omega (arith, in_front))
step_at (x ∷ []) links k d low in_front = absurd (omega (arith, in_front))
step_at (x ∷ y ∷ []) links k d low in_front = absurd (omega (arith, in_front))
step_at (x ∷ y ∷ z ∷ ases) [] k d low in_front = absurd (omega (arith, low))
step_at (x ∷ y ∷ z ∷ ases) (link ∷ links) zero d low in_front = refl
step_at (x ∷ y ∷ z ∷ ases) (link ∷ links) (suc k) d low in_front = step_at (y ∷ z ∷ ases) links k d (omega (arith, low)) (omega (arith, in_front))

pub step_in : (ases : List ℕ) (links : List Link) (k : ℕ) (d : Link) → k < length links → k + 2 < length ases
    → slice_get (steps_of ases links) k ≡ Some (step_with (get_or ases (k + 1) 0) (get_or ases (k + 2) 0) (get_or links k d))
step_in ases links k d low in_front =
    let one : suc k ≡ k + 1 = omega arith in
    let two : suc (suc k) ≡ k + 2 = omega arith in
    step_at ases links k d low (omega (arith, in_front)) ∙ ap₂ (λ i j. Some (step_with (get_or ases i 0) (get_or ases j 0) (get_or links k d))) one two

-- there are no more steps than links, and none behind the last AS
pub few_steps : (ases : List ℕ) (links : List Link) (n : ℕ) → (length links ≤ n) ⊎ (length ases ≤ suc (suc n)) → length (steps_of ases links) ≤ n
few_steps [] links n few = omega arith
few_steps (x ∷ []) links n few = omega arith
few_steps (x ∷ y ∷ []) links n few = omega arith
few_steps (x ∷ y ∷ z ∷ ases) [] n few = omega arith
few_steps (x ∷ y ∷ z ∷ ases) (link ∷ links) zero few = absurd (elim few [ inl f ↦ omega (arith, f) | inr f ↦ omega (arith, f) ])
few_steps (x ∷ y ∷ z ∷ ases) (link ∷ links) (suc n) few =
    let less : (length links ≤ n) ⊎ (length (y ∷ z ∷ ases) ≤ suc (suc n)) = elim few [ inl f ↦ inl (omega (arith, f)) | inr f ↦ inr (omega (arith, f)) ] in
    omega (arith, few_steps (y ∷ z ∷ ases) links n less)

-- a list has no member of a number past its length
pub past : {X : Type 0} (text : X → List ℕ) (xs : List X) (n : ℕ) → length xs < n → [] ≡ if_there text (numbered xs n)
past text xs zero low = refl
past text xs (suc k) low = ap (if_there text) (sym (slice_get_past xs k (omega (arith, low))))
