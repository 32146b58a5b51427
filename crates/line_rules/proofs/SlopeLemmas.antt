-- How steps go under labels, and a walk over them with a flag.
use Rattle.std.proofs.Common.{◌≡◌, ◌≢◌, ◌↔◌, ℕ, suc, ◌+◌, ◌<◌, ◌≤◌, inl, inr, Bool, true, false, not, List, [], ◌∷◌, length, get_or, drop, min, max, refl, sym, ap, ap₂, ◌∙◌, arith, IsTrue}
use Rattle.std.proofs.Common.{if◌then◌else◌, drop-cons, add-one, le-ltb, lt-ltb}
use Rattle.std.proofs.lemmas.Bool.{false≢true, cases_order}
use Rattle.result_text.specs.EdgeLabels.{labels_in}
use Rattle.relationships.specs.declared.label.End.{End}
use Rattle.relationships.specs.declared.label.Label.{Label}
use Rattle.tor_arena.specs.Distinct.{AllDistinct}
use Rattle.relationships.specs.Relationship.{Labelling, is_low, is_high, is_over, Slope, Up, Down, Flat, slope, slopes_from, slopes, ValleyFree}
use Rattle.relationships.specs.Steps.{step_slope, is_up, is_down}
use Rattle.relationships.proofs.Slopes.{over-low, over-high, slope-up, slope-down}
use Rattle.relationships.proofs.Deciding.{only_down, no_valley, no_valley_iff}
use Rattle.relationships.specs.declared.fate.Fate.{Fate}
use Rattle.relationships.specs.declared.fate.Fate.TheVariants.{Kept, Lost}
use Rattle.relationships.specs.Fates.{is_kept}
use Rattle.result_text.specs.declared.file.EdgeLine.{EdgeLine}
use Rattle.line_rules.specs.declared.edges.step.Step.{Step}
use Rattle.line_rules.specs.EdgeLines.{edges_of, AreApart}
use Rattle.line_rules.specs.PathSteps.{place_in, left_in, IsCodedStep, AreCodedStepsFrom, AreCodedSteps, labels_on, line_slopes}
use Rattle.line_rules.proofs.ValleyLemmas.{label_of_edge}

-- ---- slopes by steps

slope-from_low : (L : Labelling) (a b : ℕ) (v : Label) → a < b → L a b ≡ v → slope L a b ≡ step_slope v End.Low
unfolding slope is_over
slope-from_low L a b Label.Low lt e = slope-down L a b (over-low L a b lt (ap is_low e))
slope-from_low L a b Label.High lt e = slope-up L a b (over-high L a b lt (ap is_high e))
slope-from_low L a b Label.Peer lt e = let ge : a ≤ b = omega arith in rw (lt-ltb a b lt, le-ltb b a ge, e) refl

slope-from_high : (L : Labelling) (a b : ℕ) (v : Label) → b < a → L b a ≡ v → slope L a b ≡ step_slope v End.High
unfolding slope is_over
slope-from_high L a b Label.Low lt e = slope-up L a b (over-low L b a lt (ap is_low e))
slope-from_high L a b Label.High lt e = slope-down L a b (over-high L b a lt (ap is_high e))
slope-from_high L a b Label.Peer lt e = let ge : b ≤ a = omega arith in rw (lt-ltb b a lt, le-ltb a b ge, e) refl

module _ (lines : List EdgeLine) (apart : AreApart lines) where
  abbrev label_at : Step → Label
  label_at step = get_or (labels_on lines) (place_in step) Label.Peer

  slope-step : (a b : ℕ) (step : Step) → a ≢ b → IsCodedStep (edges_of lines) a b step → slope (labels_in lines) a b ≡ step_slope (label_at step) (left_in step)
  slope-step a b step ne h =
      let its : labels_in lines (min a b) (max a b) ≡ label_at step = label_of_edge lines apart (place_in step) a b h.0 in
      elim (cases_order a b) [
        | inl e ↦ absurd (ne e)
        | inr o ↦ elim o [
          | inl lt ↦
              let e₁ : min a b ≡ a = omega arith in let e₂ : max a b ≡ b = omega arith in
              let left : left_in step ≡ End.Low = h.1 ∙ ap (λ t. if t then End.Low else End.High) (lt-ltb a b lt) in
              slope-from_low (labels_in lines) a b (label_at step) lt (ap₂ (labels_in lines) (sym e₁) (sym e₂) ∙ its) ∙
              ap (step_slope (label_at step)) (sym left)
          | inr lt ↦
              let e₁ : min a b ≡ b = omega arith in let e₂ : max a b ≡ a = omega arith in let ge : b ≤ a = omega arith in
              let left : left_in step ≡ End.High = h.1 ∙ ap (λ t. if t then End.Low else End.High) (le-ltb a b ge) in
              slope-from_high (labels_in lines) a b (label_at step) lt (ap₂ (labels_in lines) (sym e₁) (sym e₂) ∙ its) ∙
              ap (step_slope (label_at step)) (sym left)
        ]
      ]

  slopes-from_steps : (a : ℕ) (path : List ℕ) (steps : List Step) → AllDistinct (a ∷ path) → AreCodedStepsFrom (edges_of lines) a path steps →
      slopes_from (labels_in lines) a path ≡ line_slopes lines steps
  slopes-from_steps a [] [] distinct h = refl
  slopes-from_steps a [] (step ∷ steps) distinct h = absurd h
  slopes-from_steps a (b ∷ path) [] distinct h = absurd h
  slopes-from_steps a (b ∷ path) (step ∷ steps) distinct h =
      ap₂ (λ s (ss : List Slope). s ∷ ss) (slope-step a b step (distinct 0 1 0 (omega arith) (omega arith)) h.0)
      (slopes-from_steps b path steps (λ i j d lt within. distinct (suc i) (suc j) d (omega arith) (omega arith)) h.1)

  pub slopes-steps : (path : List ℕ) (steps : List Step) → AllDistinct path → AreCodedSteps (edges_of lines) path steps → slopes (labels_in lines) path ≡ line_slopes lines steps
  slopes-steps [] steps distinct h = ap (line_slopes lines) (sym h)
  slopes-steps (a ∷ path) steps distinct h = slopes-from_steps a path steps distinct h

-- ---- steps with a flag

-- whether what is left goes on well
abbrev pub well : Bool → List Slope → Bool
well falling ss = if falling then only_down ss else no_valley ss

pub well-stop : (s : Slope) (ss : List Slope) → is_down s ≡ false → well true (s ∷ ss) ≡ false
well-stop Up ss h = refl
well-stop Down ss h = absurd (false≢true (sym h))
well-stop Flat ss h = refl

pub well-on : (falling : Bool) (s : Slope) (ss : List Slope) → (falling ≡ true → is_down s ≡ true) → well falling (s ∷ ss) ≡ well (not (is_up s)) ss
well-on true Up ss h = absurd (false≢true (h refl))
well-on true Down ss h = refl
well-on true Flat ss h = absurd (false≢true (h refl))
well-on false Up ss h = refl
well-on false Down ss h = refl
well-on false Flat ss h = refl

pub next_slopes : (lines : List EdgeLine) (steps : List Step) (i : ℕ) (step : Step) → i < length steps → step ≡ get_or steps i step →
    line_slopes lines (drop i steps) ≡ step_slope (get_or (labels_on lines) (place_in step) Label.Peer) (left_in step) ∷ line_slopes lines (drop (i + 1) steps)
next_slopes lines steps i step within is =
    rw (add-one, drop-cons steps i step)
    (ap (λ (s : Step). step_slope (get_or (labels_on lines) (place_in s) Label.Peer) (left_in s) ∷ line_slopes lines (drop (suc i) steps)) (sym is))

-- the answer, for each labelling and path that has these steps
pub answer : (lines : List EdgeLine) (steps : List Step) (result : Bool) → no_valley (line_slopes lines steps) ≡ result →
    (L : Labelling) (path : List ℕ) → slopes L path ≡ line_slopes lines steps → IsTrue result ↔ ValleyFree L path
answer lines steps result h L path e =
    let k = no_valley_iff L path in
    (λ t. k.0 (ap no_valley e ∙ h ∙ t), λ v. sym (ap no_valley e ∙ h) ∙ k.1 v)

pub well-nil : (falling : Bool) → well falling [] ≡ true
well-nil true = refl
well-nil false = refl

pub kept_fate : (fate : Fate) → is_kept fate ≡ true → fate ≡ Kept
kept_fate Kept h = refl
kept_fate (Lost walk) h = absurd (false≢true h)
