-- A walk over the steps with a flag.
use Rattle.std.proofs.Common.{◌≡◌, ◌↔◌, ℕ, suc, ◌+◌, ◌<◌, Bool, true, false, not, List, [], ◌∷◌, length, get_or, drop, refl, sym, ap, ◌∙◌, IsTrue, if◌then◌else◌, drop-cons, add-one}
use Rattle.std.proofs.lemmas.Bool.{false≢true}
use Rattle.relationships.specs.declared.label.Label.{Label}
use Rattle.relationships.specs.Relationship.{Labelling, Slope, Up, Down, Flat, slopes, ValleyFree}
use Rattle.relationships.proofs.Deciding.{only_down, no_valley, no_valley_iff}
use Rattle.as_graph.specs.declared.step.Step.{Step}
use Rattle.relationships.specs.Steps.{step_slope, is_up, is_down}
use Rattle.as_graph.specs.Steps.{slopes_by}

-- whether what is left goes on well
abbrev pub well : Bool → List Slope → Bool
well falling ss = if falling then only_down ss else no_valley ss

pub well-down : (falling : Bool) (s : Slope) (ss : List Slope) → is_down s ≡ true → well falling (s ∷ ss) ≡ well true ss
well-down falling Up ss h = absurd (false≢true h)
well-down true Down ss h = refl
well-down false Down ss h = refl
well-down falling Flat ss h = absurd (false≢true h)

pub well-stop : (s : Slope) (ss : List Slope) → is_down s ≡ false → well true (s ∷ ss) ≡ false
well-stop Up ss h = refl
well-stop Down ss h = absurd (false≢true (sym h))
well-stop Flat ss h = refl

pub well-on : (s : Slope) (ss : List Slope) → is_down s ≡ false → well false (s ∷ ss) ≡ well (not (is_up s)) ss
well-on Up ss h = refl
well-on Down ss h = absurd (false≢true (sym h))
well-on Flat ss h = refl

pub next_slopes : (labels : List Label) (steps : List Step) (i : ℕ) (step : Step) → i < length steps → step ≡ get_or steps i step →
    slopes_by labels (drop i steps) ≡ step_slope (get_or labels step.edge Label.Peer) step.left ∷ slopes_by labels (drop (i + 1) steps)
next_slopes labels steps i step within is =
    rw (add-one, drop-cons steps i step) (ap (λ (s : Step). step_slope (get_or labels s.edge Label.Peer) s.left ∷ slopes_by labels (drop (suc i) steps)) (sym is))

-- the answer, for each labelling and path that has these steps
pub answer : (labels : List Label) (steps : List Step) (result : Bool) → no_valley (slopes_by labels steps) ≡ result →
    (L : Labelling) (path : List ℕ) → slopes L path ≡ slopes_by labels steps → IsTrue result ↔ ValleyFree L path
answer labels steps result h L path e =
    let k = no_valley_iff L path in
    (λ t. k.0 (ap no_valley e ∙ h ∙ t), λ v. sym (ap no_valley e ∙ h) ∙ k.1 v)

pub well-nil : (falling : Bool) → well falling [] ≡ true
well-nil true = refl
well-nil false = refl
