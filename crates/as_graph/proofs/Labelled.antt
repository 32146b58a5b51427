-- A label, or a provider, for each edge in a list.
use Rattle.std.proofs.Common.{◌≡◌, ◌≢◌, ℕ, zero, suc, ◌<◌, ◌≤◌, inl, inr, true, false, not, List, [], ◌∷◌, length, get_or, min, max, refl, sym, ap, ap₂, ◌∙◌, subst, arith, filter, slice_get, Some}
use Rattle.std.proofs.Common.{if◌then◌else◌, eq-eqb, le-ltb, lt-ltb}
use Rattle.std.specs.List.{list_any}
use Rattle.std.proofs.lemmas.Bool.{cases_Bool, cases_order, or_parts}
use Rattle.std.proofs.lemmas.Option.{slice_get_within}
use Rattle.relationships.specs.declared.label.End.{End}
use Rattle.relationships.specs.declared.label.Label.{Label}
use Rattle.relationships.specs.Evidence.{NeighboursDiffer}
use Rattle.relationships.proofs.Serving.{NeighboursDiffer-tail}
use Rattle.relationships.specs.Relationship.{Labelling, Slope, is_low, is_high, is_over, slope, slopes_from, slopes}
use Rattle.relationships.specs.Graph.{Edge, is_same, distinct, orientation, labelling}
use Rattle.relationships.proofs.Slopes.{over-low, over-high, slope-up, slope-down}
use Rattle.as_graph.specs.declared.step.Step.{Step}
use Rattle.relationships.specs.Steps.{step_slope}
use Rattle.as_graph.specs.Steps.{IsStep, AreStepsFrom, AreSteps, slopes_by}

-- ---- no edge twice

abbrev pub NoneTwice : List Edge → Type 0
NoneTwice [] = Unit {0}
NoneTwice (e ∷ es) = (list_any (is_same e) es ≡ false) × NoneTwice es

none_filtered : (e x : Edge) (es : List Edge) → list_any (is_same e) es ≡ false → list_any (is_same e) (filter (λ f. not (is_same x f)) es) ≡ false
none_filtered e x [] h = refl
none_filtered e x (f ∷ es) h =
    let p = or_parts (is_same e f) (list_any (is_same e) es) h in
    elim (cases_Bool (is_same x f)) [ inl t ↦ rw t (none_filtered e x es p.1) | inr n ↦ rw (n, p.0) (none_filtered e x es p.1) ]

none_left : (x : Edge) (es : List Edge) → list_any (is_same x) (filter (λ f. not (is_same x f)) es) ≡ false
none_left x [] = refl
none_left x (f ∷ es) = elim (cases_Bool (is_same x f)) [ inl t ↦ rw t (none_left x es) | inr n ↦ rw (n, n) (none_left x es) ]

NoneTwice-filter : (x : Edge) (es : List Edge) → NoneTwice es → NoneTwice (filter (λ f. not (is_same x f)) es)
NoneTwice-filter x [] h = tt
NoneTwice-filter x (f ∷ es) h =
    elim (cases_Bool (is_same x f)) [ inl t ↦ rw t (NoneTwice-filter x es h.1) | inr n ↦ rw n (none_filtered f x es h.0, NoneTwice-filter x es h.1) ]

pub NoneTwice-distinct : (es : List Edge) → NoneTwice (distinct es)
NoneTwice-distinct [] = tt
NoneTwice-distinct (e ∷ es) = (none_left e (distinct es), NoneTwice-filter e (distinct es) (NoneTwice-distinct es))

pub none_at : (e : Edge) (es : List Edge) (k : ℕ) (f : Edge) → list_any (is_same e) es ≡ false → slice_get es k ≡ Some f → is_same e f ≡ false
none_at e [] k f h is = absurd (cc is)
none_at e (x ∷ es) zero f h is =
    let same : x ≡ f = cc is in subst (λ (g : Edge). is_same e g ≡ false) same (or_parts (is_same e x) (list_any (is_same e) es) h).0
none_at e (x ∷ es) (suc k) f h is = none_at e es k f (or_parts (is_same e x) (list_any (is_same e) es) h).1 is

pub same_itself : (e : Edge) → is_same e e ≡ true
same_itself e = rw (eq-eqb e.0 e.0 refl, eq-eqb e.1 e.1 refl)

-- ---- what stands for an edge

-- the label of the edge at a place is the one at that place
pub labelling_at : (es : List Edge) (labels : List Label) (k low high : ℕ) (d : Label) → NoneTwice es → slice_get es k ≡ Some (low, high) → k < length labels →
    labelling es labels low high ≡ get_or labels k d
labelling_at [] labels k low high d h is lt = absurd (cc is)
labelling_at (e ∷ es) [] k low high d h is lt = absurd (omega arith)
labelling_at (e ∷ es) (label ∷ labels) zero low high d h is lt =
    let e₀ : e ≡ (low, high) = cc is in rw (subst (λ (f : Edge). is_same f (low, high) ≡ true) (sym e₀) (same_itself (low, high))) refl
labelling_at (e ∷ es) (label ∷ labels) (suc k) low high d h is lt =
    rw (none_at e es k (low, high) h.0 is) (labelling_at es labels k low high d h.1 is (omega arith))

-- and so is its provider
pub orientation_at : (es : List Edge) (ends : List End) (k low high : ℕ) (d : End) → NoneTwice es → slice_get es k ≡ Some (low, high) → k < length ends →
    orientation es ends low high ≡ get_or ends k d
orientation_at [] ends k low high d h is lt = absurd (cc is)
orientation_at (e ∷ es) [] k low high d h is lt = absurd (omega arith)
orientation_at (e ∷ es) (end ∷ ends) zero low high d h is lt =
    let e₀ : e ≡ (low, high) = cc is in rw (subst (λ (f : Edge). is_same f (low, high) ≡ true) (sym e₀) (same_itself (low, high))) refl
orientation_at (e ∷ es) (end ∷ ends) (suc k) low high d h is lt =
    rw (none_at e es k (low, high) h.0 is) (orientation_at es ends k low high d h.1 is (omega arith))

-- ---- slopes

slope-from_low : (L : Labelling) (a b : ℕ) (v : Label) → a < b → L a b ≡ v → slope L a b ≡ step_slope v End.Low
unfolding slope is_over
slope-from_low L a b Label.Low lt e = slope-down L a b (over-low L a b lt (ap is_low e))
slope-from_low L a b Label.High lt e = slope-up L a b (over-high L a b lt (ap is_high e))
slope-from_low L a b Label.Peer lt e = let ge : a ≤ b = omega arith in rw (lt-ltb a b lt, le-ltb b a ge, e) refl

slope-from_high : (L : Labelling) (a b : ℕ) (v : Label) → b < a → L b a ≡ v → slope L a b ≡ step_slope v End.High
unfolding slope is_over
slope-from_high L a b Label.Low lt e = slope-up L a b (over-low L b a lt (ap is_low e))
slope-from_high L a b Label.High lt e = slope-down L a b (over-high L b a lt (ap is_high e))
slope-from_high L a b Label.Peer lt e = let ge : b ≤ a = omega arith in rw (lt-ltb b a lt, le-ltb a b ge, e) refl

module _ (es : List Edge) (labels : List Label) (once : NoneTwice es) (each : length labels ≡ length es) where
  slope_at : (k a b : ℕ) → slice_get es k ≡ Some (a, b) → labelling es labels a b ≡ get_or labels k Label.Peer
  slope_at k a b is = let lt = slice_get_within es k (a, b) is in labelling_at es labels k a b Label.Peer once is (omega arith)

  slope-step : (a b : ℕ) (step : Step) → a ≢ b → IsStep es a b step → slope (labelling es labels) a b ≡ step_slope (get_or labels step.edge Label.Peer) step.left
  slope-step a b step ne h =
      elim (cases_order a b) [
        | inl e ↦ absurd (ne e)
        | inr o ↦ elim o [
          | inl lt ↦
              let e₁ : min a b ≡ a = omega arith in let e₂ : max a b ≡ b = omega arith in
              let there : slice_get es step.edge ≡ Some (a, b) = h.0 ∙ ap₂ (λ x y. Some (pair x y)) e₁ e₂ in
              let left : step.left ≡ End.Low = h.1 ∙ ap (λ t. if t then End.Low else End.High) (lt-ltb a b lt) in
              slope-from_low (labelling es labels) a b (get_or labels step.edge Label.Peer) lt (slope_at step.edge a b there) ∙
              ap (step_slope (get_or labels step.edge Label.Peer)) (sym left)
          | inr lt ↦
              let e₁ : min a b ≡ b = omega arith in let e₂ : max a b ≡ a = omega arith in
              let there : slice_get es step.edge ≡ Some (b, a) = h.0 ∙ ap₂ (λ x y. Some (pair x y)) e₁ e₂ in
              let ge : b ≤ a = omega arith in
              let left : step.left ≡ End.High = h.1 ∙ ap (λ t. if t then End.Low else End.High) (le-ltb a b ge) in
              slope-from_high (labelling es labels) a b (get_or labels step.edge Label.Peer) lt (slope_at step.edge b a there) ∙
              ap (step_slope (get_or labels step.edge Label.Peer)) (sym left)
        ]
      ]
    where
      pair : ℕ → ℕ → Edge
      pair x y = (x, y)

  slopes-from_steps : (a : ℕ) (path : List ℕ) (steps : List Step) → NeighboursDiffer (a ∷ path) → AreStepsFrom es a path steps →
      slopes_from (labelling es labels) a path ≡ slopes_by labels steps
  slopes-from_steps a [] [] apart h = refl
  slopes-from_steps a [] (step ∷ steps) apart h = absurd h
  slopes-from_steps a (b ∷ path) [] apart h = absurd h
  slopes-from_steps a (b ∷ path) (step ∷ steps) apart h =
      ap₂ (λ s (ss : List Slope). s ∷ ss) (slope-step a b step (apart.differ a b ([], path, refl)) h.0)
      (slopes-from_steps b path steps (NeighboursDiffer-tail a (b ∷ path) apart) h.1)

  pub slopes-steps : (path : List ℕ) (steps : List Step) → NeighboursDiffer path → AreSteps es path steps → slopes (labelling es labels) path ≡ slopes_by labels steps
  slopes-steps [] steps apart h = ap (slopes_by labels) (sym h)
  slopes-steps (a ∷ path) steps apart h = slopes-from_steps a path steps apart h
