-- The leftmost greatest of a list of numbers, found step by step.
use Rattle.std.proofs.Common.{◌≡◌, ℕ, zero, suc, ◌+◌, ◌<◌, ◌≤◌, ◌⊎◌, inl, inr, List, [], ◌∷◌, length, get_or, map, max, refl, sym, ap, ◌∙◌, arith, ◌==◌, eq-eqb}
use Rattle.std.specs.List.{fold, position_or_len}
use Rattle.std.proofs.lemmas.Bool.{ne_eqb, cases_Bool, cases_eq}
use Rattle.std.proofs.lemmas.List.{get_or-map, length-map}
use Rattle.std.proofs.lemmas.List.Folds.{fold-map}
use Rattle.std.proofs.lemmas.List.Sums.{position_or_len_is}
use Rattle.relationships.specs.Relationship.{opposite}
use Rattle.relationships.specs.Preference.{top_of}
use Rattle.as_graph.specs.declared.step.Step.{Step}
use Rattle.gao_prefs.specs.declared.per_end.PerEnd.{PerEnd}
use Rattle.gao_prefs.specs.Ends.{number_at, along}

-- the leftmost greatest of the first n numbers stands at `top`
pub record IsTopSoFar (numbers : List ℕ) (n top highest : ℕ) : Type 0 where
  pub within : top < n
  pub is : get_or numbers top 0 ≡ highest
  pub before : (k : ℕ) → k < top → get_or numbers k 0 < highest
  pub upto : (k : ℕ) → k < n → get_or numbers k 0 ≤ highest

pub higher : (numbers : List ℕ) (n top highest reached : ℕ) → IsTopSoFar numbers n top highest → get_or numbers n 0 ≡ reached → highest < reached → IsTopSoFar numbers (n + 1) n reached
higher numbers n top highest reached t is lt = record {
  within = omega arith;
  is = is;
  before = λ k k_lt. let le = t.upto k k_lt in omega (arith, le, lt);
  upto = upto;
}
  where
    upto : (k : ℕ) → k < n + 1 → get_or numbers k 0 ≤ reached
    upto k k_lt =
        elim (le_or k n k_lt) [
          | inl lt' ↦ let le = t.upto k lt' in omega (arith, le, lt)
          | inr e ↦ let same : get_or numbers k 0 ≡ reached = ap (λ i. get_or numbers i 0) e ∙ is in omega (arith, same)
        ]
      where
        le_or : (k n : ℕ) → k < n + 1 → (k < n) ⊎ (k ≡ n)
        le_or k n h = elim (cases_eq k n) [ inl e ↦ inr e | inr ne ↦ inl (omega (arith, h, ne)) ]

pub no_higher : (numbers : List ℕ) (n top highest reached : ℕ) → IsTopSoFar numbers n top highest → get_or numbers n 0 ≡ reached → reached ≤ highest → IsTopSoFar numbers (n + 1) top highest
no_higher numbers n top highest reached t is le = record {
  within = let w = t.within in omega (arith, w);
  is = t.is;
  before = t.before;
  upto = upto;
}
  where
    upto : (k : ℕ) → k < n + 1 → get_or numbers k 0 ≤ highest
    upto k k_lt =
        elim (le_or k n k_lt) [
          | inl lt' ↦ t.upto k lt'
          | inr e ↦ let same : get_or numbers k 0 ≡ reached = ap (λ i. get_or numbers i 0) e ∙ is in omega (arith, same, le)
        ]
      where
        le_or : (k n : ℕ) → k < n + 1 → (k < n) ⊎ (k ≡ n)
        le_or k n h = elim (cases_eq k n) [ inl e ↦ inr e | inr ne ↦ inl (omega (arith, h, ne)) ]

-- a bound that is reached is the greatest
greatest_is : (a highest : ℕ) (xs : List ℕ) → a ≤ highest → ((k : ℕ) → k < length xs → get_or xs k 0 ≤ highest) →
    ((a ≡ highest) ⊎ ((k : ℕ) × (k < length xs) × (get_or xs k 0 ≡ highest))) → fold (λ m x. max m x) a xs ≡ highest
greatest_is a highest [] le upto (inl e) = e
greatest_is a highest [] le upto (inr r) = absurd (let lt = r.1 in omega (arith, lt))
greatest_is a highest (x ∷ xs) le upto some =
    let here : x ≤ highest = upto 0 (omega arith) in
    greatest_is (max a x) highest xs (omega (arith, le, here)) (λ k lt. upto (suc k) (omega arith)) (reached here some)
  where
    reached : x ≤ highest → ((a ≡ highest) ⊎ ((k : ℕ) × (k < length (x ∷ xs)) × (get_or (x ∷ xs) k 0 ≡ highest))) →
        (max a x ≡ highest) ⊎ ((k : ℕ) × (k < length xs) × (get_or xs k 0 ≡ highest))
    reached here (inl e) = inl (omega (arith, e, here))
    reached here (inr (zero, lt, e)) = inl (omega (arith, e, le))
    reached here (inr (suc k, lt, e)) = inr (k, omega arith, e)

pub top_is : (numbers : List ℕ) (top highest : ℕ) → IsTopSoFar numbers (length numbers) top highest → top ≡ top_of (λ n. n) numbers
top_is numbers top highest t =
    let within = t.within in
    let greatest : fold (λ m x. max m x) 0 numbers ≡ highest = greatest_is 0 highest numbers (omega arith) t.upto (inr (top, within, t.is)) in
    let first : position_or_len (λ a. a == highest) numbers ≡ top =
    position_or_len_is (λ a. a == highest) numbers top 0 (omega (arith, within))
    (λ k lt. ne_eqb (get_or numbers k 0) highest (λ e. absurd (let b = t.before k lt in omega (arith, b, e))))
    (λ lt. eq-eqb (get_or numbers top 0) highest t.is) in
    sym (ap (λ h. position_or_len (λ a. a == h) numbers) greatest ∙ first)

-- the degrees along a path tell its top
pub top_of-map : (degree : ℕ → ℕ) (path : List ℕ) → top_of (λ n. n) (map degree path) ≡ top_of degree path
top_of-map degree path =
    ap (λ h. position_or_len (λ a. a == h) (map degree path)) (fold-map (λ m x. max m x) degree 0 path) ∙ go (fold (λ m x. max m (degree x)) 0 path) path
  where
    go : (h : ℕ) (xs : List ℕ) → position_or_len (λ a. a == h) (map degree xs) ≡ position_or_len (λ a. degree a == h) xs
    go h [] = refl
    go h (x ∷ xs) = elim (cases_Bool (degree x == h)) [ inl t ↦ rw t | inr f ↦ rw f (ap (λ n. 1 + n) (go h xs)) ]

-- ---- along the steps of a path

pub length-along : (table : List PerEnd) (steps : List Step) → 0 < length steps → length (along table steps) ≡ length steps + 1
length-along table [] some = absurd (omega arith)
length-along table (step ∷ steps) some =
    let n = length-map steps (λ (s : Step). number_at table s.edge (opposite s.left)) in omega (arith, n)

pub along_next : (table : List PerEnd) (steps : List Step) (i : ℕ) (d : Step) → i < length steps →
    get_or (along table steps) (i + 1) 0 ≡ number_at table (get_or steps i d).edge (opposite (get_or steps i d).left)
along_next table [] i d lt = absurd (omega arith)
along_next table (step ∷ steps) i d lt =
    let e : i + 1 ≡ suc i = omega arith in
    ap (λ j. get_or (along table (step ∷ steps)) j 0) e ∙ get_or-map (λ (s : Step). number_at table s.edge (opposite s.left)) (step ∷ steps) i d 0 lt
