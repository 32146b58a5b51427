-- Literals by their classes.
use Rattle.std.proofs.Common.{◌≡◌, ℕ, ◌+◌, ◌*◌, ◌/◌, ◌<◌, inl, inr, List, [], ◌∷◌, ◌++◌, Some, length, refl, sym, ap, ◌∙◌, subst, arith}
use Rattle.std.specs.Prelude.{slice_get}
use Rattle.std.proofs.lemmas.Bool.{cases_lt}
use Rattle.relationships.specs.declared.label.End.{End}
use Rattle.relationships.specs.declared.walk.Walk.{Walk}
use Rattle.relationships.specs.Relationship.{opposite, Serves}
use Rattle.relationships.specs.Evidence.{paths_of, Refutes}
use Rattle.relationships.specs.Selection.{IsServable}
use Rattle.relationships.proofs.WalkLemmas.{refuting_law}
use Rattle.tor_digraph.specs.Walks.{IsInside}
use Rattle.tor_arena.proofs.Gets.{slice_get-push_cases, slice_get-some}
use Rattle.tor_solve.specs.Classes.{Classes, IsComponents}
use Rattle.as_graph.specs.Paths.{path_at, paths_at}
use Rattle.tor_clauses.specs.Literals.{node_of, lit_of, opposite_node}
use Rattle.tor_clauses.specs.Formulas.{Formula, IsModel, numbered}
use Rattle.tor_clauses.specs.Flipping.{HasPartners}
use Rattle.tor_clauses.proofs.LiteralLemmas.{opposite_twice, node_of_lit}
use Rattle.tor_clauses.proofs.Sides.{one_of}
use Rattle.tor_solve.specs.Solving.{IsLater, AreLater}

-- none below the next place either
pub none_more : (P : ℕ → Type 0) (place edge : ℕ) → edge ≡ place → ((e : ℕ) → e < place → P e → ⊥) → (P edge → ⊥) →
    (e : ℕ) → e < place + 1 → P e → ⊥
none_more P place edge same none at e lt h =
    elim (cases_lt e place) [
      | inl less ↦ none e less h
      | inr le ↦ let here : e ≡ edge = omega (arith, same, lt, le) in at (subst P here h)
    ]

pub later_more : (classes : List ℕ) (ends : List End) (edge : ℕ) (end : End) → edge ≡ length ends → AreLater classes ends →
    IsLater classes (record { edge = edge; over = end }) → AreLater classes (ends ++ end ∷ [])
later_more classes ends edge end same old new e other at =
    elim (slice_get-push_cases ends end e other at) [
      | inl h ↦ old e other h
      | inr h ↦
          let here : edge ≡ e = omega (arith, same, h.0) in
          subst (λ n. IsLater classes (record { edge = n; over = other })) here
          (subst (λ v. IsLater classes (record { edge = edge; over = v })) (sym h.1) new)
    ]

-- ---- the later literals

-- no arc leads from a later literal to one that is not
pub later_model : (f : Formula) (c : Classes) (ends : List End) → f.net.nodes ≡ length ends * 2 → IsInside (λ n. n) f.net → IsComponents (λ n. n) f.net c →
    HasPartners f.net.arcs → AreLater c.of ends → IsModel f ends
later_model f c ends many inside parts partner later k l m arc holds =
    let below : m < f.net.nodes = inside.heads k l m arc in
    let there : m / 2 < length ends = omega (arith, below, many) in
    let end = slice_get-some ends (m / 2) there in
    elim (one_of end.0 (lit_of m).over) [
      | inl e ↦ subst (λ v. slice_get ends (m / 2) ≡ Some v) e end.1
      | inr e ↦
          let tail = later (l / 2) (lit_of l).over holds in
          let head = later (m / 2) (opposite (lit_of m).over) (subst (λ v. slice_get ends (m / 2) ≡ Some v) e end.1) in
          let at_l : slice_get c.of l ≡ Some tail.0 = subst (λ n. slice_get c.of n ≡ Some tail.0) (node_of_lit l) tail.2 in
          let back : node_of (record { edge = m / 2; over = opposite (opposite (lit_of m).over) }) ≡ m =
          ap (λ v. node_of (record { edge = m / 2; over = v })) (opposite_twice (lit_of m).over) ∙ node_of_lit m in
          let at_m : slice_get c.of m ≡ Some head.1 = subst (λ n. slice_get c.of n ≡ Some head.1) back head.3 in
          let on = parts.order l m tail.0 head.1 (k, arc) at_l at_m in
          let partner_on = parts.order (opposite_node m) (opposite_node l) head.0 tail.1 (partner l m (k, arc)) head.2 tail.3 in
          absurd (omega (arith, on, partner_on, tail.4, head.4))
    ]

-- ---- the paths, with and without their numbers

pub numbered_paths : (graph : List (List ℕ)) (paths : List ℕ) → paths_of (numbered graph paths) ≡ paths_at graph paths
numbered_paths graph [] = refl
numbered_paths graph (path ∷ paths) = ap (λ (l : List (List ℕ)). path_at graph path ∷ l) (numbered_paths graph paths)

pub walk_excludes : (graph : List (List ℕ)) (paths : List ℕ) (w : Walk) → Refutes (numbered graph paths) w → IsServable (paths_at graph paths) → ⊥
walk_excludes graph paths w r s = refuting_law (numbered graph paths) w r s.0 (subst (λ l. Serves s.0 l) (sym (numbered_paths graph paths)) s.1)
