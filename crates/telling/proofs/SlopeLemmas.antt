-- How steps go under labels.
use Rattle.std.proofs.Common.{◌≡◌, ◌≢◌, ℕ, zero, suc, ◌+◌, ◌-◌, ◌<◌, ◌≤◌, inl, inr, List, [], ◌∷◌, ◌++◌, length, get_or, take}
use Rattle.std.proofs.Common.{min, max, refl, sym, ap, ap₂, ◌∙◌, arith, lt-ltb, le-ltb}
use Rattle.std.proofs.lemmas.Bool.{cases_order}
use Rattle.relationships.specs.declared.label.Label.{Label}
use Rattle.relationships.specs.Relationship.{Labelling, is_low, is_high, is_over, Slope, Up, Down, Flat, slope, slopes_from, slopes}
use Rattle.relationships.specs.Graph.{edge_of}
use Rattle.relationships.proofs.Slopes.{over-low, over-high, slope-up, slope-down}

pub low_down : (L : Labelling) (a b : ℕ) → a < b → L a b ≡ Label.Low → slope L a b ≡ Down
low_down L a b lt e = slope-down L a b (over-low L a b lt (ap is_low e))

pub high_up : (L : Labelling) (a b : ℕ) → a < b → L a b ≡ Label.High → slope L a b ≡ Up
high_up L a b lt e = slope-up L a b (over-high L a b lt (ap is_high e))

pub low_up : (L : Labelling) (a b : ℕ) → b < a → L b a ≡ Label.Low → slope L a b ≡ Up
low_up L a b lt e = slope-up L a b (over-low L b a lt (ap is_low e))

pub high_down : (L : Labelling) (a b : ℕ) → b < a → L b a ≡ Label.High → slope L a b ≡ Down
high_down L a b lt e = slope-down L a b (over-high L b a lt (ap is_high e))

peer_up : (L : Labelling) (a b : ℕ) → a < b → L a b ≡ Label.Peer → slope L a b ≡ Flat
unfolding slope is_over
peer_up L a b lt e = let ge : a ≤ b = omega arith in rw (lt-ltb a b lt, le-ltb b a ge, e) refl

peer_down : (L : Labelling) (a b : ℕ) → b < a → L b a ≡ Label.Peer → slope L a b ≡ Flat
unfolding slope is_over
peer_down L a b lt e = let ge : b ≤ a = omega arith in rw (lt-ltb b a lt, le-ltb a b ge, e) refl

-- the label of an edge, read at its two ends
pub upward : (L : Labelling) (a b : ℕ) (l : Label) → a < b → L (edge_of a b).0 (edge_of a b).1 ≡ l → L a b ≡ l
upward L a b l lt e =
    let f : min a b ≡ a = omega arith in let g : max a b ≡ b = omega arith in
    ap₂ L (sym f) (sym g) ∙ e

pub downward : (L : Labelling) (a b : ℕ) (l : Label) → b < a → L (edge_of a b).0 (edge_of a b).1 ≡ l → L b a ≡ l
downward L a b l lt e =
    let f : min a b ≡ b = omega arith in let g : max a b ≡ a = omega arith in
    ap₂ L (sym f) (sym g) ∙ e

pub peer_flat : (L : Labelling) (a b : ℕ) → a ≢ b → L (edge_of a b).0 (edge_of a b).1 ≡ Label.Peer → slope L a b ≡ Flat
peer_flat L a b ne e =
    elim (cases_order a b) [
      | inl same ↦ absurd (ne same)
      | inr o ↦ elim o [
        | inl lt ↦ peer_up L a b lt (upward L a b Label.Peer lt e)
        | inr lt ↦ peer_down L a b lt (downward L a b Label.Peer lt e)
      ]
    ]

-- one step more
from_more : (L : Labelling) (a : ℕ) (path : List ℕ) (k d : ℕ) → k < length path →
    slopes_from L a (take (suc k) path) ≡ slopes_from L a (take k path) ++ slope L (get_or (a ∷ path) k d) (get_or path k d) ∷ []
from_more L a [] k d lt = absurd (omega (arith, lt))
from_more L a (b ∷ path) zero d lt = refl
from_more L a (b ∷ path) (suc k) d lt = ap (λ (ss : List Slope). slope L a b ∷ ss) (from_more L b path k d (omega (arith, lt)))

pub slopes_more : (L : Labelling) (path : List ℕ) (at d : ℕ) → 0 < at → at < length path →
    slopes L (take (at + 1) path) ≡ slopes L (take at path) ++ slope L (get_or path (at - 1) d) (get_or path at d) ∷ []
slopes_more L [] at d some lt = absurd (omega (arith, lt))
slopes_more L (a ∷ path) zero d some lt = absurd (omega (arith, some))
slopes_more L (a ∷ path) (suc k) d some lt =
    let e : suc k + 1 ≡ suc (suc k) = omega arith in
    let f : suc k - 1 ≡ k = omega arith in
    rw (e, f) (from_more L a path k d (omega (arith, lt)))

pub strictly : (a b : ℕ) → b ≤ a → a ≢ b → b < a
strictly a b le ne = elim (cases_order a b) [
  | inl same ↦ absurd (ne same)
  | inr o ↦ elim o [ inl lt ↦ absurd (omega (arith, lt, le)) | inr lt ↦ lt ]
]
