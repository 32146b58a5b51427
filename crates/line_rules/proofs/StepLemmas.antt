-- The steps of paths.
use Rattle.std.proofs.Common.{◌≡◌, ℕ, zero, suc, ◌+◌, ◌-◌, ◌<◌, ◌≤◌, inl, inr, true, false, List, [], ◌∷◌, ◌++◌, fold, length, get_or, take, length-take, refl, sym, ap, ◌∙◌, subst, arith, All}
use Rattle.std.proofs.Common.{slice_get, Some, length-append, if◌then◌else◌}
use Rattle.std.specs.List.{list_any}
use Rattle.std.proofs.lemmas.Bool.{cases_Bool}
use Rattle.std.proofs.lemmas.Option.{slice_get_within}
use Rattle.std.proofs.lemmas.List.{take_all, length-map}
use Rattle.std.proofs.lemmas.List.Elements.{All-nil, All-cons}
use Rattle.relationships.specs.Graph.{Edge, is_same, edge_of, edges_from, edges_on}
use Rattle.result_text.specs.declared.file.EdgeLine.{EdgeLine}
use Rattle.result_text.specs.declared.file.PathLine.{PathLine}
use Rattle.result_text.specs.declared.file.ResultFile.{ResultFile}
use Rattle.line_rules.specs.declared.edges.step.Step.{Step}
use Rattle.result_rules.specs.File.{its_paths}
use Rattle.line_rules.specs.EdgeLines.{edges_of}
use Rattle.line_rules.specs.PathSteps.{place_in, IsCodedStep, AreCodedStepsFrom, AreCodedSteps, HaveCodedSteps}
use Rattle.tor_numbers.specs.Edges.{with_edge}
use Rattle.tor_arena.proofs.Gets.{slice_get-push_old, slice_get-map}

-- ---- more edges

with_edge-same : (es : List Edge) (e : Edge) → list_any (is_same e) es ≡ true → with_edge es e ≡ es
with_edge-same es e h = ap (λ b. if b then es else es ++ e ∷ []) h

with_edge-new : (es : List Edge) (e : Edge) → list_any (is_same e) es ≡ false → with_edge es e ≡ es ++ e ∷ []
with_edge-new es e h = ap (λ b. if b then es else es ++ e ∷ []) h

length-with_edge : (es : List Edge) (e : Edge) → length (with_edge es e) ≤ length es + 1
length-with_edge es e =
    elim (cases_Bool (list_any (is_same e) es)) [
      | inl t ↦ rw (with_edge-same es e t) (omega arith)
      | inr f ↦ rw (with_edge-new es e f) (let n = length-append es (e ∷ []) in omega (arith, n))
    ]

length-with_edges : (es more : List Edge) → length (fold with_edge es more) ≤ length es + length more
length-with_edges es [] = omega arith
length-with_edges es (e ∷ more) =
    let h = length-with_edges (with_edge es e) more in let k = length-with_edge es e in omega (arith, h, k)

with_edges-push : (es more : List Edge) (e : Edge) → fold with_edge es (more ++ e ∷ []) ≡ with_edge (fold with_edge es more) e
with_edges-push es [] e = refl
with_edges-push es (f ∷ more) e = with_edges-push (with_edge es f) more e

-- an edge keeps its place
stays : (es : List Edge) (e : Edge) (k : ℕ) (f : Edge) → slice_get es k ≡ Some f → slice_get (with_edge es e) k ≡ Some f
stays es e k f h =
    elim (cases_Bool (list_any (is_same e) es)) [
      | inl t ↦ rw (with_edge-same es e t) h
      | inr n ↦ rw (with_edge-new es e n) (slice_get-push_old es (e ∷ []) k f h)
    ]

-- and so steps stay steps
AreStepsFrom-more : (es : List Edge) (e : Edge) (a : ℕ) (path : List ℕ) (steps : List Step) → AreCodedStepsFrom es a path steps → AreCodedStepsFrom (with_edge es e) a path steps
AreStepsFrom-more es e a [] [] h = tt
AreStepsFrom-more es e a [] (step ∷ steps) h = h
AreStepsFrom-more es e a (b ∷ path) [] h = h
AreStepsFrom-more es e a (b ∷ path) (step ∷ steps) h = ((stays es e (place_in step) (edge_of a b) h.0.0, h.0.1), AreStepsFrom-more es e b path steps h.1)

AreSteps-more : (es : List Edge) (e : Edge) (path : List ℕ) (steps : List Step) → AreCodedSteps es path steps → AreCodedSteps (with_edge es e) path steps
AreSteps-more es e [] steps h = h
AreSteps-more es e (a ∷ path) steps h = AreStepsFrom-more es e a path steps h

HaveSteps-one_more : (es : List Edge) (e : Edge) (paths : List (List ℕ)) (rows : List (List Step)) → HaveCodedSteps es paths rows → HaveCodedSteps (with_edge es e) paths rows
HaveSteps-one_more es e [] [] h = tt
HaveSteps-one_more es e [] (steps ∷ rows) h = h
HaveSteps-one_more es e (path ∷ paths) [] h = h
HaveSteps-one_more es e (path ∷ paths) (steps ∷ rows) h = (AreSteps-more es e path steps h.0, HaveSteps-one_more es e paths rows h.1)

pub HaveSteps-more : (es more : List Edge) (paths : List (List ℕ)) (rows : List (List Step)) → HaveCodedSteps es paths rows → HaveCodedSteps (fold with_edge es more) paths rows
HaveSteps-more es [] paths rows h = h
HaveSteps-more es (e ∷ more) paths rows h = HaveSteps-more (with_edge es e) more paths rows (HaveSteps-one_more es e paths rows h)

pub HaveSteps-push : (es : List Edge) (paths : List (List ℕ)) (rows : List (List Step)) (path : List ℕ) (steps : List Step) →
    HaveCodedSteps es paths rows → AreCodedSteps es path steps → HaveCodedSteps es (paths ++ path ∷ []) (rows ++ steps ∷ [])
HaveSteps-push es [] [] path steps h k = (k, tt)
HaveSteps-push es [] (r ∷ rows) path steps h k = absurd h
HaveSteps-push es (p ∷ paths) [] path steps h k = absurd h
HaveSteps-push es (p ∷ paths) (r ∷ rows) path steps h k = (h.0, HaveSteps-push es paths rows path steps h.1 k)

-- ---- a step more

edges_from_more : (a : ℕ) (path : List ℕ) (i : ℕ) → i < length path →
    edges_from a (take (suc i) path) ≡ edges_from a (take i path) ++ edge_of (get_or (a ∷ path) i 0) (get_or path i 0) ∷ []
edges_from_more a [] i lt = absurd (omega arith)
edges_from_more a (b ∷ path) zero lt = refl
edges_from_more a (b ∷ path) (suc i) lt = ap (λ (l : List Edge). edge_of a b ∷ l) (edges_from_more b path i (omega arith))

steps_from_more : (es : List Edge) (a : ℕ) (path : List ℕ) (i : ℕ) (steps : List Step) (step : Step) → i < length path → AreCodedStepsFrom es a (take i path) steps →
    IsCodedStep es (get_or (a ∷ path) i 0) (get_or path i 0) step → AreCodedStepsFrom es a (take (suc i) path) (steps ++ step ∷ [])
steps_from_more es a [] i steps step lt h k = absurd (omega arith)
steps_from_more es a (b ∷ path) zero [] step lt h k = (k, tt)
steps_from_more es a (b ∷ path) zero (s ∷ steps) step lt h k = absurd h
steps_from_more es a (b ∷ path) (suc i) [] step lt h k = absurd h
steps_from_more es a (b ∷ path) (suc i) (s ∷ steps) step lt h k = (h.0, steps_from_more es b path i steps step (omega arith) h.1 k)

length-edges_from : (a : ℕ) (path : List ℕ) → length (edges_from a path) ≡ length path
length-edges_from a [] = refl
length-edges_from a (b ∷ path) = ap suc (length-edges_from b path)

-- the edges of the path's first ASes are there, and these are the steps
pub record Walked (before es : List Edge) (path : List ℕ) (at : ℕ) (steps : List Step) : Type 0 where
  pub begun : 1 ≤ at
  pub there : es ≡ fold with_edge before (edges_on (take at path))
  pub stepped : AreCodedSteps es (take at path) steps

pub Walked-begins : (es : List Edge) (path : List ℕ) (steps : List Step) → steps ≡ [] → Walked es es path 1 steps
Walked-begins es [] steps h = record { begun = omega arith; there = refl; stepped = h }
Walked-begins es (a ∷ path) steps h =
    subst (λ (l : List Step). Walked es es (a ∷ path) 1 l) (sym h) (record { begun = omega arith; there = refl; stepped = tt })

pub Walked-room : (before es : List Edge) (path : List ℕ) (at : ℕ) (steps : List Step) → Walked before es path at steps → at < length path →
    length es < length before + length path
Walked-room before es [] at steps h lt = absurd (omega arith)
Walked-room before es (a ∷ path) zero steps h lt = absurd (let b = h.begun in omega (arith, b))
Walked-room before es (a ∷ path) (suc i) steps h lt =
    let n = ap length h.there in
    let le = length-with_edges before (edges_from a (take i path)) in
    let m = length-edges_from a (take i path) in
    let t = length-take i path in
    omega (arith, n, le, m, t, lt)

pub Walked-more : (before es : List Edge) (path : List ℕ) (at : ℕ) (steps : List Step) (step : Step) (new : List Edge) → Walked before es path at steps → at < length path →
    new ≡ with_edge es (edge_of (get_or path (at - 1) 0) (get_or path at 0)) → IsCodedStep new (get_or path (at - 1) 0) (get_or path at 0) step →
    Walked before new path (at + 1) (steps ++ step ∷ [])
Walked-more before es [] at steps step new h lt is k = absurd (omega arith)
Walked-more before es (a ∷ path) zero steps step new h lt is k = absurd (let b = h.begun in omega (arith, b))
Walked-more before es (a ∷ path) (suc i) steps step new h lt is k =
    let back : suc i - 1 ≡ i = omega arith in
    let added : new ≡ with_edge es (edge_of (get_or (a ∷ path) i 0) (get_or path i 0)) =
    subst (λ j. new ≡ with_edge es (edge_of (get_or (a ∷ path) j 0) (get_or path i 0))) back is in
    let goes : IsCodedStep new (get_or (a ∷ path) i 0) (get_or path i 0) step = subst (λ j. IsCodedStep new (get_or (a ∷ path) j 0) (get_or path i 0) step) back k in
    let e : Edge = edge_of (get_or (a ∷ path) i 0) (get_or path i 0) in
    let there : new ≡ fold with_edge before (edges_from a (take (suc i) path)) =
    added ∙ ap (λ es. with_edge es e) h.there ∙ sym (with_edges-push before (edges_from a (take i path)) e) ∙ ap (fold with_edge before) (sym (edges_from_more a path i (omega arith))) in
    let here : AreCodedStepsFrom new a (take i path) steps =
    subst (λ es. AreCodedStepsFrom es a (take i path) steps) (sym added) (AreStepsFrom-more es e a (take i path) steps h.stepped) in
    let next : suc i + 1 ≡ suc (suc i) = omega arith in
    subst (λ n. Walked before new (a ∷ path) n (steps ++ step ∷ [])) (sym next)
    (record { begun = omega arith; there = there; stepped = steps_from_more new a path i steps step (omega arith) here goes })

pub Walked-all : (before es : List Edge) (path : List ℕ) (at : ℕ) (steps : List Step) → Walked before es path at steps → length path ≤ at →
    (es ≡ fold with_edge before (edges_on path)) × AreCodedSteps es path steps
Walked-all before es path at steps h le =
    let all = take_all at path le in
    (h.there ∙ ap (λ l. fold with_edge before (edges_on l)) all, subst (λ l. AreCodedSteps es l steps) all h.stepped)

-- ---- what steps say

pub length-rows : (es : List Edge) (paths : List (List ℕ)) (rows : List (List Step)) → HaveCodedSteps es paths rows → length rows ≡ length paths
length-rows es [] [] h = refl
length-rows es [] (steps ∷ rows) h = absurd h
length-rows es (path ∷ paths) [] h = absurd h
length-rows es (path ∷ paths) (steps ∷ rows) h = ap suc (length-rows es paths rows h.1)

pub steps_of_path : (es : List Edge) (paths : List (List ℕ)) (rows : List (List Step)) (k : ℕ) (path : List ℕ) (steps : List Step) → HaveCodedSteps es paths rows →
    slice_get paths k ≡ Some path → slice_get rows k ≡ Some steps → AreCodedSteps es path steps
steps_of_path es [] rows k path steps h is is' = absurd (cc is)
steps_of_path es (p ∷ paths) [] k path steps h is is' = absurd h
steps_of_path es (p ∷ paths) (r ∷ rows) zero path steps h is is' =
    let e : r ≡ steps = cc is' in let e' : p ≡ path = cc is in subst (AreCodedSteps es path) e (subst (λ q. AreCodedSteps es q r) e' h.0)
steps_of_path es (p ∷ paths) (r ∷ rows) (suc k) path steps h is is' = steps_of_path es paths rows k path steps h.1 is is'

length-from : (es : List Edge) (a : ℕ) (path : List ℕ) (steps : List Step) → AreCodedStepsFrom es a path steps → length steps ≡ length path
length-from es a [] [] h = refl
length-from es a [] (step ∷ steps) h = absurd h
length-from es a (b ∷ path) [] h = absurd h
length-from es a (b ∷ path) (step ∷ steps) h = ap suc (length-from es b path steps h.1)

pub length-steps : (es : List Edge) (path : List ℕ) (steps : List Step) → AreCodedSteps es path steps → length steps ≡ length path - 1
length-steps es [] steps h = ap length h
length-steps es (a ∷ path) steps h = let n = length-from es a path steps h in omega (arith, n)

inside-from : (es : List Edge) (a : ℕ) (path : List ℕ) (steps : List Step) → AreCodedStepsFrom es a path steps → All (λ (s : Step). place_in s < length es) steps
inside-from es a [] [] h = All-nil (λ (s : Step). place_in s < length es)
inside-from es a [] (step ∷ steps) h = absurd h
inside-from es a (b ∷ path) [] h = absurd h
inside-from es a (b ∷ path) (step ∷ steps) h =
    All-cons (λ (s : Step). place_in s < length es) step steps (slice_get_within es (place_in step) (edge_of a b) h.0.0) (inside-from es b path steps h.1)

pub inside_steps : (es : List Edge) (path : List ℕ) (steps : List Step) → AreCodedSteps es path steps → All (λ (s : Step). place_in s < length es) steps
inside_steps es [] steps h = subst (All (λ (s : Step). place_in s < length es)) (sym h) (All-nil (λ (s : Step). place_in s < length es))
inside_steps es (a ∷ path) steps h = inside-from es a path steps h

-- the step of a place goes from its AS to the next
step_from_at : (es : List Edge) (a : ℕ) (path : List ℕ) (steps : List Step) (i : ℕ) (d : Step) → AreCodedStepsFrom es a path steps → i < length steps →
    IsCodedStep es (get_or (a ∷ path) i 0) (get_or path i 0) (get_or steps i d)
step_from_at es a [] [] i d h lt = absurd (omega arith)
step_from_at es a [] (step ∷ steps) i d h lt = absurd h
step_from_at es a (b ∷ path) [] i d h lt = absurd h
step_from_at es a (b ∷ path) (step ∷ steps) zero d h lt = h.0
step_from_at es a (b ∷ path) (step ∷ steps) (suc i) d h lt = step_from_at es b path steps i d h.1 (omega arith)

pub step_at : (es : List Edge) (path : List ℕ) (steps : List Step) (i : ℕ) (d : Step) → AreCodedSteps es path steps → i < length steps →
    IsCodedStep es (get_or path i 0) (get_or path (i + 1) 0) (get_or steps i d)
step_at es [] steps i d h lt = absurd (let n = ap length h in omega (arith, n))
step_at es (a ∷ path) steps i d h lt = let e : i + 1 ≡ suc i = omega arith in rw e (step_from_at es a path steps i d h lt)

-- ---- the steps of the lines of a file

pub many_rows : (file : ResultFile) (es : List Edge) (rows : List (List Step)) → HaveCodedSteps es (its_paths file) rows → length rows ≡ length file.paths
many_rows file es rows h = length-rows es (its_paths file) rows h ∙ length-map file.paths (λ (p : PathLine). p.path)

pub steps-here : (file : ResultFile) (es : List Edge) (rows : List (List Step)) (place : ℕ) (line : PathLine) (steps : List Step) → HaveCodedSteps es (its_paths file) rows →
    slice_get file.paths place ≡ Some line → slice_get rows place ≡ Some steps → AreCodedSteps es line.path steps
steps-here file es rows place line steps h at at' =
    steps_of_path es (its_paths file) rows place line.path steps h (slice_get-map (λ (p : PathLine). p.path) file.paths place line at) at'

-- the steps along the edges of lines are steps of these lines
pub inside_lines : (lines : List EdgeLine) (path : List ℕ) (steps : List Step) → AreCodedSteps (edges_of lines) path steps → All (λ (s : Step). place_in s < length lines) steps
inside_lines lines path steps are =
    subst (λ n. All (λ (s : Step). place_in s < n) steps) (length-map lines (λ (e : EdgeLine). (e.low, e.high))) (inside_steps (edges_of lines) path steps are)
