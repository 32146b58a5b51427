-- Steps, and lists of steps that have no valley.
use Rattle.std.proofs.Common.{◌≡◌, ◌≢◌, ℕ, zero, suc, ◌<◌, ◌≤◌, ◌⊎◌, inl, inr, true, false, ◌&&◌, List, [], ◌∷◌, ◌++◌, length, replicate, refl, sym, ap, ◌∙◌, subst, arith, nat_lt, ltb-true, lt-ltb}
use Rattle.std.proofs.Common.{le-ltb}
use Rattle.std.proofs.lemmas.Bool.{cases_Bool, cases_order, or_cases, and_parts}
use Rattle.relationships.specs.declared.label.End.{End}
use Rattle.relationships.specs.declared.label.Label.{Label}
use Rattle.relationships.specs.Relationship.{Orientation, Labelling, label_of, labels_of, is_low, is_high, is_over, Slope, Up, Down, Flat, slope, slopes, ValleyFree}

low_or_high : (v : Label) → is_low v ≡ true → is_high v ≡ true → ⊥
low_or_high Label.Low l h = cc
low_or_high Label.High l h = cc
low_or_high Label.Peer l h = cc

pub over_parts : (L : Labelling) (a b : ℕ) → is_over L a b ≡ true → ((a < b) × (is_low (L a b) ≡ true)) ⊎ ((b < a) × (is_high (L b a) ≡ true))
unfolding is_over
over_parts L a b h =
    elim (or_cases (nat_lt a b && is_low (L a b)) (nat_lt b a && is_high (L b a)) h) [
      | inl p ↦ let u = and_parts (nat_lt a b) (is_low (L a b)) p in inl (ltb-true a b u.0, u.1)
      | inr p ↦ let u = and_parts (nat_lt b a) (is_high (L b a)) p in inr (ltb-true b a u.0, u.1)
    ]

-- of two ASes at most one is over the other
pub over_one_way : (L : Labelling) (a b : ℕ) → is_over L a b ≡ true → is_over L b a ≡ true → ⊥
over_one_way L a b h k =
    elim (over_parts L a b h) [
      | inl p ↦ elim (over_parts L b a k) [ inl q ↦ absurd (omega arith) | inr q ↦ low_or_high (L a b) p.1 q.1 ]
      | inr p ↦ elim (over_parts L b a k) [ inl q ↦ low_or_high (L b a) q.1 p.1 | inr q ↦ absurd (omega arith) ]
    ]

pub slope-up : (L : Labelling) (a b : ℕ) → is_over L b a ≡ true → slope L a b ≡ Up
unfolding slope
slope-up L a b h = rw h

pub slope-down : (L : Labelling) (a b : ℕ) → is_over L a b ≡ true → slope L a b ≡ Down
unfolding slope
slope-down L a b h =
    elim (cases_Bool (is_over L b a)) [ inl k ↦ absurd (over_one_way L a b h k) | inr k ↦ rw (k, h) ]

-- the slope of a step, with what it says
pub slope_cases : (L : Labelling) (a b : ℕ) →
    ((is_over L b a ≡ true) × (slope L a b ≡ Up)) ⊎ (((is_over L a b ≡ true) × (slope L a b ≡ Down)) ⊎
    ((is_over L a b ≡ false) × (is_over L b a ≡ false) × (slope L a b ≡ Flat)))
unfolding slope
slope_cases L a b =
    elim (cases_Bool (is_over L b a)) [
      | inl k ↦ inl (k, slope-up L a b k)
      | inr k ↦ elim (cases_Bool (is_over L a b)) [ inl h ↦ inr (inl (h, slope-down L a b h)) | inr h ↦ inr (inr (h, k, rw (k, h))) ]
    ]

pub over-up : (L : Labelling) (a b : ℕ) → slope L a b ≡ Up → is_over L b a ≡ true
over-up L a b e =
    elim (slope_cases L a b) [ inl p ↦ p.0 | inr q ↦ elim q [ inl p ↦ absurd (cc p.1) | inr p ↦ absurd (cc p.2) ] ]

pub over-down : (L : Labelling) (a b : ℕ) → slope L a b ≡ Down → is_over L a b ≡ true
over-down L a b e =
    elim (slope_cases L a b) [ inl p ↦ absurd (cc p.1) | inr q ↦ elim q [ inl p ↦ p.0 | inr p ↦ absurd (cc p.2) ] ]

end_cases : (e : End) → (is_low (label_of e) ≡ true) ⊎ (is_high (label_of e) ≡ true)
end_cases End.Low = inl refl
end_cases End.High = inr refl

pub over-low : (L : Labelling) (a b : ℕ) → a < b → is_low (L a b) ≡ true → is_over L a b ≡ true
unfolding is_over
over-low L a b lt h = rw (lt-ltb a b lt, h)

pub over-high : (L : Labelling) (a b : ℕ) → a < b → is_high (L a b) ≡ true → is_over L b a ≡ true
unfolding is_over
over-high L a b lt h = let ge : a ≤ b = omega arith in rw (le-ltb b a ge, lt-ltb a b lt, h)

-- under an orientation one of two ASes is over the other
pub over_one_of : (O : Orientation) (a b : ℕ) → a ≢ b → (is_over (labels_of O) a b ≡ true) ⊎ (is_over (labels_of O) b a ≡ true)
over_one_of O a b ne =
    elim (cases_order a b) [
      | inl e ↦ absurd (ne e)
      | inr o ↦ elim o [
        | inl lt ↦ elim (end_cases (O a b)) [ inl h ↦ inl (over-low (labels_of O) a b lt h) | inr h ↦ inr (over-high (labels_of O) a b lt h) ]
        | inr lt ↦ elim (end_cases (O b a)) [ inl h ↦ inr (over-low (labels_of O) b a lt h) | inr h ↦ inl (over-high (labels_of O) b a lt h) ]
      ]
    ]

-- only downs
abbrev pub Falls : List Slope → Type 0
Falls [] = Unit {0}
Falls (s ∷ ss) = (s ≡ Down) × Falls ss

-- no valley, by recursion: an up and then no valley, or any step and then only downs
abbrev pub Free : List Slope → Type 0
Free [] = Unit {0}
Free (s ∷ ss) = ((s ≡ Up) × Free ss) ⊎ Falls ss

Falls-replicate : (n : ℕ) → Falls (replicate n Down)
Falls-replicate zero = tt
Falls-replicate (suc n) = (refl, Falls-replicate n)

Free-falls : (n : ℕ) → Free (replicate n Down)
Free-falls zero = tt
Free-falls (suc n) = inr (Falls-replicate n)

Free-ups : (m : ℕ) (ss : List Slope) → Free ss → Free (replicate m Up ++ ss)
Free-ups zero ss h = h
Free-ups (suc m) ss h = inl (refl, Free-ups m ss h)

pub Free-from_valley_free : (L : Labelling) (path : List ℕ) → ValleyFree L path → Free (slopes L path)
Free-from_valley_free L path v =
    elim v.2 [
      | inl e ↦ subst Free (sym e) (Free-ups v.0 (replicate v.1 Down) (Free-falls v.1))
      | inr e ↦ subst Free (sym e) (Free-ups v.0 (Flat ∷ replicate v.1 Down) (inr (Falls-replicate v.1)))
    ]

Falls-all : (ss : List Slope) → Falls ss → ss ≡ replicate (length ss) Down
Falls-all [] h = refl
Falls-all (s ∷ ss) h = let e = Falls-all ss h.1 in ap (λ t. t ∷ ss) h.0 ∙ ap (λ (l : List Slope). Down ∷ l) e

abbrev Split : List Slope → Type 0
Split ss =
    (ups downs : ℕ) ×
    ((ss ≡ replicate ups Up ++ replicate downs Down) ⊎ (ss ≡ replicate ups Up ++ (Flat ∷ replicate downs Down)))

first_split : (s : Slope) (ss : List Slope) → Falls ss → Split (s ∷ ss)
first_split Up ss h = (1, length ss, inl (ap (λ (l : List Slope). Up ∷ l) (Falls-all ss h)))
first_split Down ss h = (0, suc (length ss), inl (ap (λ (l : List Slope). Down ∷ l) (Falls-all ss h)))
first_split Flat ss h = (0, length ss, inr (ap (λ (l : List Slope). Flat ∷ l) (Falls-all ss h)))

one_more_up : (s : Slope) (ss : List Slope) → s ≡ Up → Split ss → Split (s ∷ ss)
one_more_up s ss e v = (
  suc v.0,
  v.1,
  elim v.2 [
    | inl h ↦ inl (ap (λ t. t ∷ ss) e ∙ ap (λ (l : List Slope). Up ∷ l) h)
    | inr h ↦ inr (ap (λ t. t ∷ ss) e ∙ ap (λ (l : List Slope). Up ∷ l) h)
  ],
)

Split-from_free : (ss : List Slope) → Free ss → Split ss
Split-from_free [] h = (0, 0, inl refl)
Split-from_free (s ∷ ss) (inl p) = one_more_up s ss p.0 (Split-from_free ss p.1)
Split-from_free (s ∷ ss) (inr f) = first_split s ss f

pub ValleyFree-from_free : (L : Labelling) (path : List ℕ) → Free (slopes L path) → ValleyFree L path
ValleyFree-from_free L path h = Split-from_free (slopes L path) h

-- "over" reads the two labels of its two ASes alone
pub over-same : (L M : Labelling) (a b : ℕ) → L a b ≡ M a b → L b a ≡ M b a → is_over L a b ≡ is_over M a b
unfolding is_over
over-same L M a b h k = rw (h, k)
