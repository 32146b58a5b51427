-- The triples of a path, read off its steps.
use Rattle.std.proofs.Common.{◌≡◌, ℕ, zero, suc, ◌+◌, ◌-◌, ◌≤◌, List, [], ◌∷◌, Some, length, refl, sym, ap, ap₂, ◌∙◌, arith}
use Rattle.std.specs.Prelude.{slice_get}
use Rattle.std.proofs.lemmas.Option.{same_Some}
use Rattle.relationships.specs.Graph.{Edge, edge_of, is_same, edges}
use Rattle.as_graph.specs.EdgeSteps.{EdgeStep}
use Rattle.as_graph.specs.Steps.{IsStep, AreStepsFrom, AreSteps}
use Rattle.as_graph.specs.Paths.{path_at}
use Rattle.tor_clauses.specs.declared.triple.Triple.{Triple}
use Rattle.tor_clauses.specs.Literals.{Literal, over}
use Rattle.tor_clauses.specs.Triples.{triples_from, triples_along, triples_on}
use Rattle.tor_clauses.specs.Tables.{lit_at, triple_by}
use Rattle.tor_clauses.proofs.Distincts.{Apart}
use Rattle.tor_clauses.proofs.LiteralLemmas.{lit_with}
use Rattle.tor_clauses.proofs.Overs.{place_is, edges-apart}

step_over : (es : List Edge) (x y : ℕ) (s : EdgeStep) → Apart is_same es → IsStep es x y s → over es x y ≡ lit_at s
step_over es x y s a h = ap₂ lit_with (place_is es s.edge (edge_of x y) a h.0) (sym h.1)

abbrev triple_with : ℕ → ℕ → Literal → Literal → Triple
triple_with path at l m = record { path = path; at = at; first = l; second = m }

triples_by : (es : List Edge) (path at x y : ℕ) (rest : List ℕ) (steps : List EdgeStep) (k : ℕ) (s t : EdgeStep) → Apart is_same es → AreStepsFrom es x (y ∷ rest) steps →
    slice_get steps k ≡ Some s → slice_get steps (suc k) ≡ Some t → slice_get (triples_from es path at x y rest) k ≡ Some (triple_by path (at + k) s t)
triples_by es path at x y rest [] k s t a are h g = absurd (cc h)
triples_by es path at x y [] (u ∷ []) k s t a are h g = absurd (cc g)
triples_by es path at x y [] (u ∷ v ∷ steps) k s t a are h g = absurd are.1
triples_by es path at x y (z ∷ rest) (u ∷ []) k s t a are h g = absurd are.1
triples_by es path at x y (z ∷ rest) (u ∷ v ∷ steps) zero s t a are h g =
    let one : over es x y ≡ lit_at s = step_over es x y u a are.0 ∙ ap lit_at (same_Some _ _ h) in
    let two : over es y z ≡ lit_at t = step_over es y z v a are.1.0 ∙ ap lit_at (same_Some _ _ g) in
    let e : at ≡ at + 0 = omega arith in
    ap Some (ap₂ (triple_with path at) one two ∙ ap (λ n. triple_by path n s t) e)
triples_by es path at x y (z ∷ rest) (u ∷ v ∷ steps) (suc k) s t a are h g =
    let e : at + 1 + k ≡ at + suc k = omega arith in
    triples_by es path (at + 1) y z rest (v ∷ steps) k s t a are.1 h g ∙ ap (λ n. Some (triple_by path n s t)) e

steps_length : (es : List Edge) (x : ℕ) (rest : List ℕ) (steps : List EdgeStep) → AreStepsFrom es x rest steps → length steps ≡ length rest
steps_length es x [] [] h = refl
steps_length es x [] (s ∷ steps) h = absurd h
steps_length es x (y ∷ rest) [] h = absurd h
steps_length es x (y ∷ rest) (s ∷ steps) h = ap suc (steps_length es y rest steps h.1)

triples_length : (es : List Edge) (path at x y : ℕ) (rest : List ℕ) → length (triples_from es path at x y rest) ≡ length rest
triples_length es path at x y [] = refl
triples_length es path at x y (z ∷ rest) = ap suc (triples_length es path (at + 1) y z rest)

module _ (graph : List (List ℕ)) (path : ℕ) (steps : List EdgeStep) (are : AreSteps (edges graph) (path_at graph path) steps) where
  pub triple_by_steps : (k : ℕ) (s t : EdgeStep) → slice_get steps k ≡ Some s → slice_get steps (suc k) ≡ Some t →
      slice_get (triples_on graph path) k ≡ Some (triple_by path (2 + k) s t)
  triple_by_steps k s t h g = by_cases (path_at graph path) steps are h g
    where
      by_cases : (p : List ℕ) (steps : List EdgeStep) → AreSteps (edges graph) p steps → slice_get steps k ≡ Some s → slice_get steps (suc k) ≡ Some t →
          slice_get (triples_along (edges graph) path p) k ≡ Some (triple_by path (2 + k) s t)
      by_cases [] steps are h g = absurd (cc (are, h))
      by_cases (x ∷ []) [] are h g = absurd (cc h)
      by_cases (x ∷ []) (u ∷ steps) are h g = absurd are
      by_cases (x ∷ y ∷ rest) steps are h g = triples_by (edges graph) path 2 x y rest steps k s t (edges-apart graph) are h g

  pub triples_by_steps : length (triples_on graph path) ≤ length steps - 1
  triples_by_steps = by_cases (path_at graph path) steps are
    where
      by_cases : (p : List ℕ) (steps : List EdgeStep) → AreSteps (edges graph) p steps → length (triples_along (edges graph) path p) ≤ length steps - 1
      by_cases [] steps are = omega arith
      by_cases (x ∷ []) steps are = omega arith
      by_cases (x ∷ y ∷ rest) steps are =
          let a = triples_length (edges graph) path 2 x y rest in let b = steps_length (edges graph) x (y ∷ rest) steps are in omega (arith, a, b)
