-- A path has one list of steps along edges of which none stands twice.
use Rattle.std.proofs.Common.{◌≡◌, ℕ, zero, suc, List, [], ◌∷◌, slice_get, Some, refl, sym, ap, ap₂, ◌∙◌}
use Rattle.std.proofs.lemmas.Bool.{false≢true}
use Rattle.relationships.specs.declared.label.End.{End}
use Rattle.relationships.specs.Graph.{Edge, is_same}
use Rattle.as_graph.specs.declared.step.Step.{Step}
use Rattle.as_graph.specs.Steps.{IsStep, AreStepsFrom, AreSteps}
use Rattle.as_graph.proofs.Labelled.{NoneTwice, none_at, same_itself}

-- an edge stands at one place
one_place : (es : List Edge) (i j : ℕ) (e : Edge) → NoneTwice es → slice_get es i ≡ Some e → slice_get es j ≡ Some e → i ≡ j
one_place [] i j e once is at = absurd (cc is)
one_place (f ∷ es) zero zero e once is at = refl
one_place (f ∷ es) zero (suc j) e once is at =
    let here : f ≡ e = cc is in
    absurd (false≢true (sym (none_at f es j e once.0 at) ∙ ap (λ (g : Edge). is_same g e) here ∙ same_itself e))
one_place (f ∷ es) (suc i) zero e once is at =
    let here : f ≡ e = cc at in
    absurd (false≢true (sym (none_at f es i e once.0 is) ∙ ap (λ (g : Edge). is_same g e) here ∙ same_itself e))
one_place (f ∷ es) (suc i) (suc j) e once is at = ap suc (one_place es i j e once.1 is at)

made : ℕ → End → Step
made edge left = record { edge = edge; left = left }

one_step : (es : List Edge) (a b : ℕ) (s t : Step) → NoneTwice es → IsStep es a b s → IsStep es a b t → s ≡ t
unfolding made
one_step es a b s t once h k = ap₂ made (one_place es s.edge t.edge _ once h.0 k.0) (h.1 ∙ sym k.1)

one_behind : (es : List Edge) (a : ℕ) (path : List ℕ) (steps others : List Step) → NoneTwice es → AreStepsFrom es a path steps → AreStepsFrom es a path others → steps ≡ others
one_behind es a [] [] [] once h k = refl
one_behind es a [] [] (t ∷ others) once h k = absurd k
one_behind es a [] (s ∷ steps) others once h k = absurd h
one_behind es a (b ∷ path) [] others once h k = absurd h
one_behind es a (b ∷ path) (s ∷ steps) [] once h k = absurd k
one_behind es a (b ∷ path) (s ∷ steps) (t ∷ others) once h k =
    ap₂ (λ (u : Step) (l : List Step). u ∷ l) (one_step es a b s t once h.0 k.0) (one_behind es b path steps others once h.1 k.1)

pub one_row : (es : List Edge) (path : List ℕ) (steps others : List Step) → NoneTwice es → AreSteps es path steps → AreSteps es path others → steps ≡ others
one_row es [] steps others once h k = h ∙ sym k
one_row es (a ∷ path) steps others once h k = one_behind es a path steps others once h k
