-- What a number that is put into a table adds.
use Rattle.std.proofs.Common.{◌≡◌, ℕ, ◌+◌, ◌-◌, ◌≤◌, inl, inr, Bool, true, false, not, ◌||◌, ◌==◌, List, [], ◌∷◌, ◌++◌, map, min, max, refl, sym, ap, ap₂, ◌∙◌, subst, arith, if◌then◌else◌, eq-eqb}
use Rattle.std.specs.Prelude.{All, Contains}
use Rattle.std.specs.List.{list_any}
use Rattle.std.proofs.lemmas.Bool.{eqb-true, false_from_ne_true}
use Rattle.std.proofs.lemmas.Cmp.{nat_eq_equiv}
use Rattle.std.proofs.lemmas.Map.Views.{list_any-from_Contains, Contains-from_any}
use Rattle.std.proofs.lemmas.List.Elements.{All-head, All-tail, All-push}
use Rattle.std.proofs.lemmas.List.{map-append}
use Rattle.relationships.specs.Graph.{Edge, edge_of, is_same}
use Rattle.relationships.proofs.Edges.{same_edge}
use Rattle.tor_numbers.specs.Edges.{with_edge}
use Rattle.tor_numbers.specs.EdgeNumbers.{edge_numbered}
use Rattle.tor_numbers.specs.Places.{GoesLastIfNew}
use Rattle.tor_numbers.specs.Slots.{IsInserted}
use Rattle.tor_numbers.proofs.EdgeNumbers.{same_number}
use Rattle.tor_survey.specs.Sets.{as_numbered, with_as}

-- ---- any table

abbrev pub AreNumbers : List ℕ → Type 0
AreNumbers numbers = All (λ n. 2 ≤ n) numbers

-- two numbers stand for the same exactly if they are one
abbrev pub IsExact : {X : Type 0} → (X → X → Bool) → (ℕ → X) → Type 0
IsExact same read = (m n : ℕ) → 2 ≤ m → 2 ≤ n → same (read m) (read n) ≡ (m == n)

any_read : {X : Type 0} (same : X → X → Bool) (read : ℕ → X) (numbers : List ℕ) (n : ℕ) → IsExact same read → AreNumbers numbers → 2 ≤ n →
    list_any (same (read n)) (map read numbers) ≡ list_any (λ m. n == m) numbers
any_read same read [] n exact all h = refl
any_read same read (x ∷ numbers) n exact all h =
    ap₂ (λ a b. a || b) (exact n x h (All-head (λ m. 2 ≤ m) x numbers all)) (any_read same read numbers n exact (All-tail (λ m. 2 ≤ m) x numbers all) h)

number_known : (numbers : List ℕ) (n : ℕ) → Contains numbers n → list_any (λ m. n == m) numbers ≡ true
number_known numbers n c = list_any-from_Contains nat_eq_equiv n numbers c

number_new : (numbers : List ℕ) (n : ℕ) → (Contains numbers n → ⊥) → list_any (λ m. n == m) numbers ≡ false
number_new numbers n absent = false_from_ne_true (list_any (λ m. n == m) numbers) (λ any. absent (Contains-from_any (λ x y t. eqb-true x y t) n numbers any))

put : {X : Type 0} (same : X → X → Bool) (read : ℕ → X) (old new : List ℕ) (n : ℕ) → IsExact same read → AreNumbers old → 2 ≤ n → GoesLastIfNew n old new →
    map read new ≡ (if list_any (same (read n)) (map read old) then map read old else map read old ++ read n ∷ [])
put same read old new n exact all h (inl there) =
    rw (any_read same read old n exact all h ∙ number_known old n there.0) (ap (map read) there.1)
put same read old new n exact all h (inr added) =
    rw (any_read same read old n exact all h ∙ number_new old n added.0) (ap (map read) added.1 ∙ map-append read old (n ∷ []))

inserted : {X : Type 0} (same : X → X → Bool) (read : ℕ → X) (old new : List ℕ) (n : ℕ) (is_new : Bool) → IsExact same read → AreNumbers old → 2 ≤ n → IsInserted n old new is_new →
    (map read new ≡ (if list_any (same (read n)) (map read old) then map read old else map read old ++ read n ∷ [])) × (is_new ≡ not (list_any (same (read n)) (map read old)))
inserted same read old new n true exact all h is =
    let absent = any_read same read old n exact all h ∙ number_new old n is.0 in
    (put same read old new n exact all h (inr is), ap not (sym absent))
inserted same read old new n false exact all h is =
    let there = any_read same read old n exact all h ∙ number_known old n is.0 in
    (put same read old new n exact all h (inl is), ap not (sym there))

pub numbers_put : (old new : List ℕ) (n : ℕ) → AreNumbers old → 2 ≤ n → GoesLastIfNew n old new → AreNumbers new
numbers_put old new n all h (inl there) = subst AreNumbers (sym there.1) all
numbers_put old new n all h (inr added) = subst AreNumbers (sym added.1) (All-push (λ m. 2 ≤ m) old n all h)

both : (a b : Bool) → (a ≡ true → b ≡ true) → (b ≡ true → a ≡ true) → a ≡ b
both true b h k = sym (h refl)
both false true h k = k refl
both false false h k = refl

-- ---- ASes

as_exact : IsExact (λ a b. a == b) as_numbered
as_exact m n h k = both (m - 2 == n - 2) (m == n)
    (λ t. let e : m - 2 ≡ n - 2 = eqb-true (m - 2) (n - 2) t in eq-eqb m n (omega (arith, h, k, e)))
    (λ t. let e : m ≡ n = eqb-true m n t in eq-eqb (m - 2) (n - 2) (omega (arith, e)))

pub as_put : (old new : List ℕ) (a n : ℕ) → n ≡ a + 2 → AreNumbers old → GoesLastIfNew n old new → map as_numbered new ≡ with_as (map as_numbered old) a
as_put old new a n e all is =
    let back : n - 2 ≡ a = omega (arith, e) in
    put (λ a b. a == b) as_numbered old new n as_exact all (omega (arith, e)) is ∙ ap (with_as (map as_numbered old)) back

-- ---- pairs

is_same-self : (e : Edge) → is_same e e ≡ true
is_same-self e = rw (eq-eqb e.0 e.0 refl, eq-eqb e.1 e.1 refl)

edge_exact : IsExact is_same edge_numbered
edge_exact m n h k = both (is_same (edge_numbered m) (edge_numbered n)) (m == n)
    (λ t. eq-eqb m n (same_number m n h k (same_edge (edge_numbered m) (edge_numbered n) t)))
    (λ t. ap (λ i. is_same (edge_numbered m) (edge_numbered i)) (sym (eqb-true m n t)) ∙ is_same-self (edge_numbered m))

pair : {a b c d : ℕ} → a ≡ b → c ≡ d → ◌≡◌ {A = Edge} (a, c) (b, d)
pair p q = rw (p, q) refl

pub edge_inserted : (old new : List ℕ) (a b low high n : ℕ) (is_new : Bool) → low ≡ min a b → high ≡ max a b → 2 ≤ n → edge_numbered n ≡ (low, high) →
    AreNumbers old → IsInserted n old new is_new →
    (map edge_numbered new ≡ with_edge (map edge_numbered old) (edge_of a b)) × (is_new ≡ not (list_any (is_same (edge_of a b)) (map edge_numbered old)))
edge_inserted old new a b low high n is_new l g least e all is =
    let its : edge_numbered n ≡ edge_of a b = e ∙ pair l g in
    let both_are = inserted is_same edge_numbered old new n is_new edge_exact all least is in (
      both_are.0 ∙ ap (with_edge (map edge_numbered old)) its,
      both_are.1 ∙ ap (λ (f : Edge). not (list_any (is_same f) (map edge_numbered old))) its,
    )
