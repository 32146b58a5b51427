-- What one visit more leaves true of a search.
use Rattle.std.proofs.Common.{◌≡◌, ℕ, ◌<◌, ◌≤◌, inl, inr, Bool, true, false, List, [], ◌∷◌, ◌++◌, length, sym, ap, ◌∙◌, subst, arith}
use Rattle.std.specs.Prelude.{slice_get}
use Rattle.tor_arena.proofs.Gets.{slice_get-push_cases, slice_get-push_last, slice_get-some}
use Rattle.relationships.specs.declared.label.End.{End}
use Rattle.tor_digraph.specs.Spreading.{Stays}
use Rattle.tor_digraph.specs.Trails.{StandsAt, Visits}
use Rattle.tor_digraph.specs.declared.trail.Trail.{Trail}
use Rattle.tor_clauses.specs.Literals.{lit_of, Holds}
use Rattle.tor_mend.specs.Searches.{AreUnheld, StayUnheld, IsPassed, ArePassed}

-- ---- one visit

-- a new node stands behind those that were visited before
pub visit_last : (node place arc : ℕ) (old new : Trail) → Visits node place arc old new true → StandsAt new.nodes.items (length old.nodes.items) node
visit_last node place arc old new h = ap (λ (l : List ℕ). slice_get l (length old.nodes.items)) h.1 ∙ slice_get-push_last old.nodes.items node

module _ (ends : List End) where
  unheld_last : (node : ℕ) (old new : List ℕ) → (Holds ends (lit_of node) → ⊥) → new ≡ old ++ node ∷ [] → StayUnheld ends old new
  unheld_last node old new none is before k x at = elim (slice_get-push_cases old node k x (sym (ap (λ (l : List ℕ). slice_get l k) is) ∙ at)) [
    | inl was ↦ before k x was
    | inr last ↦ subst (λ y. Holds ends (lit_of y) → ⊥) (sym last.1) none
  ]

  -- a literal that does not hold
  pub unheld_visit : (node place arc : ℕ) (old new : Trail) (is_new : Bool) → (Holds ends (lit_of node) → ⊥) → Visits node place arc old new is_new →
      StayUnheld ends old.nodes.items new.nodes.items
  unheld_visit node place arc old new true none h before k x at = unheld_last node old.nodes.items new.nodes.items none h.1 before k x at
  unheld_visit node place arc old new false none h before k x at = before k x (sym (ap (λ (l : List ℕ). slice_get l k) h.1) ∙ at)

  -- the first visit alone
  pub unheld_begun : (nodes : List ℕ) (start : ℕ) → (Holds ends (lit_of start) → ⊥) → nodes ≡ start ∷ [] → AreUnheld ends nodes
  unheld_begun nodes start none is = unheld_last start [] nodes none is (λ k x at. let bad = at in cc)

module _ (arcs : List (ℕ × ℕ)) (ends : List End) where
  pub passed_more : (old new : List ℕ) (k : ℕ) → k < length old → Stays old new → (y : ℕ) → IsPassed ends old k y → IsPassed ends new k y
  passed_more old new k lt grown y (inl h) = inl (h.0, grown h.0 y h.1)
  passed_more old new k lt grown y (inr h) = inr (
    h.0,
    λ j le s.
        let o = slice_get-some old j (omega (arith, le, lt)) in
        h.1 j le (o.1 ∙ sym (grown j o.0 o.1) ∙ s),
  )

  pub all_passed_more : (old new : List ℕ) (next : ℕ) → next ≤ length old → Stays old new → ArePassed arcs ends old next → ArePassed arcs ends new next
  all_passed_more old new next le grown passed k x lt at a y arc =
      let o = slice_get-some old k (omega (arith, le, lt)) in
      passed_more old new k (omega (arith, le, lt)) grown y (passed k x lt (o.1 ∙ sym (grown k o.0 o.1) ∙ at) a y arc)
