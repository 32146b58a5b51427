-- The steps of paths.
use Rattle.std.proofs.Common.{◌≡◌, ℕ, zero, suc, ◌+◌, ◌<◌, ◌≤◌, inl, inr, List, [], ◌∷◌, ◌++◌, length, get_or, take, map, length-take, ◌-◌, refl, sym, ap, ap₂, ◌∙◌, subst, arith, All, slice_get, Some}
use Rattle.std.proofs.Common.{nat_lt}
use Rattle.std.proofs.lemmas.Bool.{cases_Bool, ltb-true, ltb-false}
use Rattle.std.proofs.lemmas.Option.{get_or_from_slice_get, slice_get_within}
use Rattle.std.proofs.lemmas.List.{take_all}
use Rattle.std.proofs.lemmas.List.Elements.{All-nil, All-cons, All-head, All-tail}
use Rattle.relationships.specs.Relationship.{opposite}
use Rattle.relationships.specs.Graph.{Edge, edge_of, edges_from, edges_on}
use Rattle.as_graph.specs.declared.step.Step.{Step}
use Rattle.relationships.specs.Steps.{end_left}
use Rattle.as_graph.specs.Steps.{IsStep, AreStepsFrom, AreSteps, HaveSteps}
use Rattle.tor_numbers.specs.Edges.{with_edge, with_edges}
use Rattle.as_graph.specs.Inside.{as_at, left_as, next_as, path_by}
use Rattle.as_graph.proofs.Distinct.{with_edges-push, stays, length-with_edges, length-edges_from}

-- ---- more edges

pub IsStep-more : (es : List Edge) (e : Edge) (a b : ℕ) (step : Step) → IsStep es a b step → IsStep (with_edge es e) a b step
IsStep-more es e a b step h = (stays es e step.edge (edge_of a b) h.0, h.1)

AreStepsFrom-more : (es : List Edge) (e : Edge) (a : ℕ) (path : List ℕ) (steps : List Step) → AreStepsFrom es a path steps → AreStepsFrom (with_edge es e) a path steps
AreStepsFrom-more es e a [] [] h = tt
AreStepsFrom-more es e a [] (step ∷ steps) h = h
AreStepsFrom-more es e a (b ∷ path) [] h = h
AreStepsFrom-more es e a (b ∷ path) (step ∷ steps) h = (IsStep-more es e a b step h.0, AreStepsFrom-more es e b path steps h.1)

AreSteps-more : (es : List Edge) (e : Edge) (path : List ℕ) (steps : List Step) → AreSteps es path steps → AreSteps (with_edge es e) path steps
AreSteps-more es e [] steps h = h
AreSteps-more es e (a ∷ path) steps h = AreStepsFrom-more es e a path steps h

HaveSteps-one_more : (es : List Edge) (e : Edge) (paths : List (List ℕ)) (rows : List (List Step)) → HaveSteps es paths rows → HaveSteps (with_edge es e) paths rows
HaveSteps-one_more es e [] [] h = tt
HaveSteps-one_more es e [] (steps ∷ rows) h = h
HaveSteps-one_more es e (path ∷ paths) [] h = h
HaveSteps-one_more es e (path ∷ paths) (steps ∷ rows) h = (AreSteps-more es e path steps h.0, HaveSteps-one_more es e paths rows h.1)

pub HaveSteps-more : (es more : List Edge) (paths : List (List ℕ)) (rows : List (List Step)) → HaveSteps es paths rows → HaveSteps (with_edges es more) paths rows
HaveSteps-more es [] paths rows h = h
HaveSteps-more es (e ∷ more) paths rows h = HaveSteps-more (with_edge es e) more paths rows (HaveSteps-one_more es e paths rows h)

pub HaveSteps-push : (es : List Edge) (paths : List (List ℕ)) (rows : List (List Step)) (path : List ℕ) (steps : List Step) →
    HaveSteps es paths rows → AreSteps es path steps → HaveSteps es (paths ++ path ∷ []) (rows ++ steps ∷ [])
HaveSteps-push es [] [] path steps h k = (k, tt)
HaveSteps-push es [] (r ∷ rows) path steps h k = absurd h
HaveSteps-push es (p ∷ paths) [] path steps h k = absurd h
HaveSteps-push es (p ∷ paths) (r ∷ rows) path steps h k = (h.0, HaveSteps-push es paths rows path steps h.1 k)

-- ---- a step more

edges_from_more : (a : ℕ) (path : List ℕ) (i : ℕ) → i < length path →
    edges_from a (take (suc i) path) ≡ edges_from a (take i path) ++ edge_of (get_or (a ∷ path) i 0) (get_or path i 0) ∷ []
edges_from_more a [] i lt = absurd (omega arith)
edges_from_more a (b ∷ path) zero lt = refl
edges_from_more a (b ∷ path) (suc i) lt = ap (λ (l : List Edge). edge_of a b ∷ l) (edges_from_more b path i (omega arith))

steps_from_more : (es : List Edge) (a : ℕ) (path : List ℕ) (i : ℕ) (steps : List Step) (step : Step) → i < length path → AreStepsFrom es a (take i path) steps →
    IsStep es (get_or (a ∷ path) i 0) (get_or path i 0) step → AreStepsFrom es a (take (suc i) path) (steps ++ step ∷ [])
steps_from_more es a [] i steps step lt h k = absurd (omega arith)
steps_from_more es a (b ∷ path) zero [] step lt h k = (k, tt)
steps_from_more es a (b ∷ path) zero (s ∷ steps) step lt h k = absurd h
steps_from_more es a (b ∷ path) (suc i) [] step lt h k = absurd h
steps_from_more es a (b ∷ path) (suc i) (s ∷ steps) step lt h k = (h.0, steps_from_more es b path i steps step (omega arith) h.1 k)

-- the edges of the path's first ASes are there, and these are the steps
pub record Walked (before es : List Edge) (path : List ℕ) (at : ℕ) (steps : List Step) : Type 0 where
  pub begun : 1 ≤ at
  pub there : es ≡ with_edges before (edges_on (take at path))
  pub stepped : AreSteps es (take at path) steps

pub Walked-begins : (es : List Edge) (path : List ℕ) (steps : List Step) → steps ≡ [] → Walked es es path 1 steps
Walked-begins es [] steps h = record { begun = omega arith; there = refl; stepped = h }
Walked-begins es (a ∷ path) steps h =
    subst (λ (l : List Step). Walked es es (a ∷ path) 1 l) (sym h) (record { begun = omega arith; there = refl; stepped = tt })

pub Walked-room : (before es : List Edge) (path : List ℕ) (at : ℕ) (steps : List Step) → Walked before es path at steps → at < length path →
    length es < length before + length path
Walked-room before es [] at steps h lt = absurd (omega arith)
Walked-room before es (a ∷ path) zero steps h lt = absurd (let b = h.begun in omega (arith, b))
Walked-room before es (a ∷ path) (suc i) steps h lt =
    let n = ap length h.there in
    let le = length-with_edges before (edges_from a (take i path)) in
    let m = length-edges_from a (take i path) in
    let t = length-take i path in
    omega (arith, n, le, m, t, lt)

pub Walked-more : (before es : List Edge) (path : List ℕ) (at : ℕ) (steps : List Step) (step : Step) (new : List Edge) → Walked before es path at steps → at < length path →
    new ≡ with_edge es (edge_of (get_or path (at - 1) 0) (get_or path at 0)) → IsStep new (get_or path (at - 1) 0) (get_or path at 0) step →
    Walked before new path (at + 1) (steps ++ step ∷ [])
Walked-more before es [] at steps step new h lt is k = absurd (omega arith)
Walked-more before es (a ∷ path) zero steps step new h lt is k = absurd (let b = h.begun in omega (arith, b))
Walked-more before es (a ∷ path) (suc i) steps step new h lt is k =
    let back : suc i - 1 ≡ i = omega arith in
    let added : new ≡ with_edge es (edge_of (get_or (a ∷ path) i 0) (get_or path i 0)) =
    subst (λ j. new ≡ with_edge es (edge_of (get_or (a ∷ path) j 0) (get_or path i 0))) back is in
    let goes : IsStep new (get_or (a ∷ path) i 0) (get_or path i 0) step = subst (λ j. IsStep new (get_or (a ∷ path) j 0) (get_or path i 0) step) back k in
    let e : Edge = edge_of (get_or (a ∷ path) i 0) (get_or path i 0) in
    let there : new ≡ with_edges before (edges_from a (take (suc i) path)) =
    added ∙ ap (λ es. with_edge es e) h.there ∙ sym (with_edges-push before (edges_from a (take i path)) e) ∙ ap (with_edges before) (sym (edges_from_more a path i (omega arith))) in
    let here : AreStepsFrom new a (take i path) steps =
    subst (λ es. AreStepsFrom es a (take i path) steps) (sym added) (AreStepsFrom-more es e a (take i path) steps h.stepped) in
    let next : suc i + 1 ≡ suc (suc i) = omega arith in
    subst (λ n. Walked before new (a ∷ path) n (steps ++ step ∷ [])) (sym next)
    (record { begun = omega arith; there = there; stepped = steps_from_more new a path i steps step (omega arith) here goes })

pub Walked-all : (before es : List Edge) (path : List ℕ) (at : ℕ) (steps : List Step) → Walked before es path at steps → length path ≤ at →
    (es ≡ with_edges before (edges_on path)) × AreSteps es path steps
Walked-all before es path at steps h le =
    let all = take_all at path le in
    (h.there ∙ ap (λ l. with_edges before (edges_on l)) all, subst (λ l. AreSteps es l steps) all h.stepped)

-- ---- a path is given by its steps

left_here : (a b : ℕ) → as_at (edge_of a b) (end_left a b) ≡ a
left_here a b =
    elim (cases_Bool (nat_lt a b)) [
      | inl t ↦ let lt = ltb-true a b t in rw t (omega (arith, lt))
      | inr f ↦ let le = ltb-false a b f in rw f (omega (arith, le))
    ]

next_here : (a b : ℕ) → as_at (edge_of a b) (opposite (end_left a b)) ≡ b
next_here a b =
    elim (cases_Bool (nat_lt a b)) [
      | inl t ↦ let lt = ltb-true a b t in rw t (omega (arith, lt))
      | inr f ↦ let le = ltb-false a b f in rw f (omega (arith, le))
    ]

pub left_as-step : (es : List Edge) (a b : ℕ) (step : Step) → IsStep es a b step → left_as es step ≡ a
left_as-step es a b step h = ap₂ as_at (get_or_from_slice_get es step.edge (edge_of a b) (0, 0) h.0) h.1 ∙ left_here a b

pub next_as-step : (es : List Edge) (a b : ℕ) (step : Step) → IsStep es a b step → next_as es step ≡ b
next_as-step es a b step h = ap₂ (λ (e : Edge) end. as_at e (opposite end)) (get_or_from_slice_get es step.edge (edge_of a b) (0, 0) h.0) h.1 ∙ next_here a b

nexts : (es : List Edge) (a : ℕ) (path : List ℕ) (steps : List Step) → AreStepsFrom es a path steps → map (next_as es) steps ≡ path
nexts es a [] [] h = refl
nexts es a [] (step ∷ steps) h = absurd h
nexts es a (b ∷ path) [] h = absurd h
nexts es a (b ∷ path) (step ∷ steps) h = ap₂ (λ x (l : List ℕ). x ∷ l) (next_as-step es a b step h.0) (nexts es b path steps h.1)

pub path_by-steps : (es : List Edge) (path : List ℕ) (steps : List Step) → 2 ≤ length path → AreSteps es path steps → path_by es steps ≡ path
path_by-steps es [] steps two h = absurd (omega arith)
path_by-steps es (a ∷ []) steps two h = absurd (omega arith)
path_by-steps es (a ∷ b ∷ path) [] two h = absurd h
path_by-steps es (a ∷ b ∷ path) (step ∷ steps) two h =
    ap₂ (λ x (l : List ℕ). x ∷ l) (left_as-step es a b step h.0) (nexts es a (b ∷ path) (step ∷ steps) h)

pub paths_by_steps : (es : List Edge) (paths : List (List ℕ)) (rows : List (List Step)) → All (λ path. 2 ≤ length path) paths → HaveSteps es paths rows →
    map (path_by es) rows ≡ paths
paths_by_steps es [] [] two h = refl
paths_by_steps es [] (steps ∷ rows) two h = absurd h
paths_by_steps es (path ∷ paths) [] two h = absurd h
paths_by_steps es (path ∷ paths) (steps ∷ rows) two h =
    ap₂ (λ (p : List ℕ) ps. p ∷ ps) (path_by-steps es path steps (All-head (λ p. 2 ≤ length p) path paths two) h.0)
    (paths_by_steps es paths rows (All-tail (λ p. 2 ≤ length p) path paths two) h.1)

-- ---- what steps say

pub have_steps_at : (es : List Edge) (paths : List (List ℕ)) (rows : List (List Step)) (k : ℕ) (steps : List Step) → HaveSteps es paths rows →
    slice_get rows k ≡ Some steps → AreSteps es (get_or paths k []) steps
have_steps_at es [] [] k steps h is = absurd (cc is)
have_steps_at es [] (r ∷ rows) k steps h is = absurd h
have_steps_at es (p ∷ paths) [] k steps h is = absurd h
have_steps_at es (p ∷ paths) (r ∷ rows) zero steps h is = let e : r ≡ steps = cc is in subst (AreSteps es p) e h.0
have_steps_at es (p ∷ paths) (r ∷ rows) (suc k) steps h is = have_steps_at es paths rows k steps h.1 is

length-from : (es : List Edge) (a : ℕ) (path : List ℕ) (steps : List Step) → AreStepsFrom es a path steps → length steps ≡ length path
length-from es a [] [] h = refl
length-from es a [] (step ∷ steps) h = absurd h
length-from es a (b ∷ path) [] h = absurd h
length-from es a (b ∷ path) (step ∷ steps) h = ap suc (length-from es b path steps h.1)

pub length-steps : (es : List Edge) (path : List ℕ) (steps : List Step) → 2 ≤ length path → AreSteps es path steps → length steps + 1 ≡ length path
length-steps es [] steps two h = absurd (omega arith)
length-steps es (a ∷ path) steps two h = let n = length-from es a path steps h in omega (arith, n)

inside-from : (es : List Edge) (a : ℕ) (path : List ℕ) (steps : List Step) → AreStepsFrom es a path steps → All (λ (s : Step). s.edge < length es) steps
inside-from es a [] [] h = All-nil (λ (s : Step). s.edge < length es)
inside-from es a [] (step ∷ steps) h = absurd h
inside-from es a (b ∷ path) [] h = absurd h
inside-from es a (b ∷ path) (step ∷ steps) h =
    All-cons (λ (s : Step). s.edge < length es) step steps (slice_get_within es step.edge (edge_of a b) h.0.0) (inside-from es b path steps h.1)

pub inside_steps : (es : List Edge) (path : List ℕ) (steps : List Step) → AreSteps es path steps → All (λ (s : Step). s.edge < length es) steps
inside_steps es [] steps h = subst (All (λ (s : Step). s.edge < length es)) (sym h) (All-nil (λ (s : Step). s.edge < length es))
inside_steps es (a ∷ path) steps h = inside-from es a path steps h

-- the step of a place goes from its AS to the next
step_from_at : (es : List Edge) (a : ℕ) (path : List ℕ) (steps : List Step) (i : ℕ) (d : Step) → AreStepsFrom es a path steps → i < length steps →
    IsStep es (get_or (a ∷ path) i 0) (get_or path i 0) (get_or steps i d)
step_from_at es a [] [] i d h lt = absurd (omega arith)
step_from_at es a [] (step ∷ steps) i d h lt = absurd h
step_from_at es a (b ∷ path) [] i d h lt = absurd h
step_from_at es a (b ∷ path) (step ∷ steps) zero d h lt = h.0
step_from_at es a (b ∷ path) (step ∷ steps) (suc i) d h lt = step_from_at es b path steps i d h.1 (omega arith)

pub step_at : (es : List Edge) (path : List ℕ) (steps : List Step) (i : ℕ) (d : Step) → AreSteps es path steps → i < length steps →
    IsStep es (get_or path i 0) (get_or path (i + 1) 0) (get_or steps i d)
step_at es [] steps i d h lt = absurd (let n = ap length h in omega (arith, n))
step_at es (a ∷ path) steps i d h lt = let e : i + 1 ≡ suc i = omega arith in rw e (step_from_at es a path steps i d h lt)
