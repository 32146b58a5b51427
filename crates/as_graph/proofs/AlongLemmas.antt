-- Paths that are read back from their steps, by the AS that a step of each place reaches.
use Rattle.std.proofs.Common.{◌≡◌, ℕ, zero, suc, ◌+◌, ◌*◌, ◌<◌, List, [], ◌∷◌, ◌++◌, length, get_or, take, map, refl, ap, ap₂, ◌∙◌, arith, All, slice_get, Some}
use Rattle.std.proofs.lemmas.Option.{get_or_from_slice_get, slice_get_within}
use Rattle.std.proofs.lemmas.List.{take_more}
use Rattle.std.proofs.lemmas.List.Elements.{All-head, All-tail}
use Rattle.relationships.specs.declared.label.End.{End}
use Rattle.relationships.specs.Relationship.{opposite}
use Rattle.relationships.specs.Graph.{Edge}
use Rattle.as_graph.specs.declared.step.Step.{Step}
use Rattle.as_graph.specs.EdgeSteps.{side}
use Rattle.as_graph.specs.Inside.{as_at, next_as, left_as, path_by, reached_by, as_along, path_along}

pub length-reached : (es : List Edge) → length (reached_by es) ≡ length es * 2
length-reached [] = refl
length-reached (e ∷ es) = let n = length-reached es in omega (arith, n)

reached-push : (es : List Edge) (e : Edge) → reached_by (es ++ e ∷ []) ≡ (reached_by es ++ (e.1 ∷ [])) ++ (e.0 ∷ [])
reached-push [] e = refl
reached-push (d ∷ es) e = ap (λ (l : List ℕ). d.1 ∷ d.0 ∷ l) (reached-push es e)

-- an edge more
pub reached_more : (es : List Edge) (k : ℕ) (e : Edge) → slice_get es k ≡ Some e →
    reached_by (take (k + 1) es) ≡ (reached_by (take k es) ++ (e.1 ∷ [])) ++ (e.0 ∷ [])
reached_more es k e is =
    let next : take (k + 1) es ≡ take k es ++ e ∷ [] =
    take_more es k (0, 0) (slice_get_within es k e is) ∙ ap (λ (d : Edge). take k es ++ d ∷ []) (get_or_from_slice_get es k e (0, 0) is) in
    ap reached_by next ∙ reached-push (take k es) e

as_reached : (es : List Edge) (k : ℕ) (end : End) → k < length es → get_or (reached_by es) (k * 2 + side end) 0 ≡ as_at (get_or es k (0, 0)) (opposite end)
as_reached [] k end lt = absurd (omega arith)
as_reached (e ∷ es) zero End.Low lt = refl
as_reached (e ∷ es) zero End.High lt = refl
as_reached (e ∷ es) (suc k) end lt =
    let same : suc k * 2 + side end ≡ suc (suc (k * 2 + side end)) = omega arith in
    ap (λ i. get_or (reached_by (e ∷ es)) i 0) same ∙ as_reached es k end (omega arith)

opposite-twice : (end : End) → opposite (opposite end) ≡ end
opposite-twice End.Low = refl
opposite-twice End.High = refl

ases_reached : (es : List Edge) (steps : List Step) → All (λ (s : Step). s.edge < length es) steps → map (as_along (reached_by es)) steps ≡ map (next_as es) steps
ases_reached es [] h = refl
ases_reached es (step ∷ steps) h =
    ap₂ (λ (a : ℕ) (l : List ℕ). a ∷ l) (as_reached es step.edge step.left (All-head (λ (s : Step). s.edge < length es) step steps h))
    (ases_reached es steps (All-tail (λ (s : Step). s.edge < length es) step steps h))

-- along steps of edges these are the paths
pub along_edges : (es : List Edge) (steps : List Step) → All (λ (s : Step). s.edge < length es) steps → path_along (reached_by es) steps ≡ path_by es steps
along_edges es [] h = refl
along_edges es (step ∷ steps) h =
    let there = All-head (λ (s : Step). s.edge < length es) step steps h in
    let first : as_along (reached_by es) (record { edge = step.edge; left = opposite step.left }) ≡ left_as es step =
    as_reached es step.edge (opposite step.left) there ∙ ap (as_at (get_or es step.edge (0, 0))) (opposite-twice step.left) in
    ap₂ (λ (a : ℕ) (l : List ℕ). a ∷ l) first (ases_reached es (step ∷ steps) h)
