-- First places at which something doesn't hold.
use Rattle.std.proofs.Common.{◌≡◌, ◌↔◌, inl, inr, ℕ, ◌+◌, ◌<◌, Bool, true, false, IsTrue, List, [], ◌∷◌, ◌++◌, Option, Some, None, take, slice_get, refl, sym, ap, ◌∙◌, subst, arith}
use Rattle.std.proofs.lemmas.Bool.{false≢true, cases_lt, cases_order}
use Rattle.std.proofs.lemmas.Option.{same_Some}
use Rattle.relationships.specs.Evidence.{IsTriple, IsConsistent}
use Rattle.relationships.specs.declared.mark.Probe.{Probe}
use Rattle.result_text.specs.declared.file.ResultFile.{ResultFile}
use Rattle.relationships.specs.Graph.{edges}
use Rattle.result_rules.specs.File.{its_claims, its_edges, its_paths, its_probes}
use Rattle.result_rules.specs.Rules.{its_served, ServesNewEdge}
use Rattle.line_rules.specs.Flipping.{IsFlipped, flipped_orders, served_lines, IsBuilt, IsProper, FlipsLeaveNoValley}
use Rattle.line_rules.specs.Serving.{Gains, GainsAt, ServesAt, first_failing}
use Rattle.line_rules.specs.Breaches.{First}
use Rattle.tor_arena.proofs.Gets.{slice_get-map, take_get}
use Rattle.line_rules.proofs.Carrying.{consistent_same, gains_far, gains_near, gains_edge}
use Rattle.line_rules.proofs.Servings.{probe_of_gains, gains_of_probe, gains_flipped}

pub first_more : (P : ℕ → Type 0) (k : ℕ) (first : Option ℕ) (holds : Bool) → First P k first → IsTrue holds ↔ P k → First P (k + 1) (first_failing first k holds)
first_more P k (Some j) holds h exact = let lt = h.0 in (omega arith, h.1, h.2)
first_more P k None true h exact = λ j lt.
    elim (cases_lt j k) [ inl less ↦ h j less | inr ge ↦ let e : k ≡ j = omega arith in subst P e (exact.0 refl) ]
first_more P k None false h exact = (omega arith, λ p. false≢true (exact.1 p), h)

pub below_and : (P : ℕ → Type 0) (k : ℕ) → ((j : ℕ) → j < k → P j) → P k → (j : ℕ) → j < k + 1 → P j
below_and P k h p j lt = elim (cases_lt j k) [ inl less ↦ h j less | inr ge ↦ let e : k ≡ j = omega arith in subst P e p ]

-- ---- open lines

abbrev pub order_of : Probe → ℕ × ℕ
order_of p = (p.over, p.under)

module _ (file : ResultFile) where
  pub probe_at : (k : ℕ) (line : Probe) → slice_get file.probes k ≡ Some line → slice_get (its_probes file) k ≡ Some (line.over, line.under)
  probe_at k line at = slice_get-map order_of file.probes k line at

  pub probes_more : (k : ℕ) (line : Probe) → slice_get file.probes k ≡ Some line → take (k + 1) (its_probes file) ≡ take k (its_probes file) ++ (line.over, line.under) ∷ []
  probes_more k line at = take_get (its_probes file) k (line.over, line.under) (probe_at k line at)

  pub gains_at : (k : ℕ) (line : Probe) (gains : Bool) → slice_get file.probes k ≡ Some line →
      IsTrue gains ↔ Gains (served_lines file) (its_claims file) (take k (its_probes file)) (line.over, line.under) → IsTrue gains ↔ GainsAt file k
  gains_at k line gains at exact = (
    λ t p at'. subst (Gains (served_lines file) (its_claims file) (take k (its_probes file))) (same_Some (line.over, line.under) p (sym (probe_at k line at) ∙ at')) (exact.0 t),
    λ g. exact.1 (g (line.over, line.under) (probe_at k line at)),
  )

  module _ (whole : its_edges file ≡ edges (its_paths file)) where
    -- an open line that serves gains
    gains_if_serves : (k : ℕ) (p : ℕ × ℕ) → ServesNewEdge file k p → Gains (served_lines file) (its_claims file) (take k (its_probes file)) p
    gains_if_serves k p s =
        gains_near file whole (take k (its_probes file)) p (gains_of_probe (its_served file) (its_claims file) (take k (its_probes file)) p s)

    -- up to a line that doesn't serve, each line gains but the first that doesn't
    pub gains_here : (n k : ℕ) (idle : Option ℕ) → First (GainsAt file) n idle → (idle ≡ Some k → ⊥) → k < n → ((j : ℕ) → j < k → ServesAt file j) → GainsAt file k
    gains_here n k None h other lt serve = h k lt
    gains_here n k (Some j) h other lt serve =
        elim (cases_order j k) [
          | inl e ↦ absurd (other (ap (λ i. Some i) e))
          | inr o ↦ elim o [ inl less ↦ absurd (h.1 (λ p at. gains_if_serves j p (serve j less p at))) | inr less ↦ h.2 k less ]
        ]

    pub idle_fails : (n k : ℕ) (idle : Option ℕ) → First (GainsAt file) n idle → idle ≡ Some k → (k < n) × (ServesAt file k → ⊥)
    idle_fails n k None h e = absurd (cc e)
    idle_fails n k (Some j) h e =
        let same = same_Some j k e in
        (subst (λ i. i < n) same h.0, λ s. h.1 (subst (GainsAt file) (sym same) (λ p at. gains_if_serves k p (s p at))))

    pub serves_here : (k : ℕ) (line : Probe) → slice_get file.probes k ≡ Some line → GainsAt file k → IsConsistent (served_lines file) line.over line.under → ServesAt file k
    serves_here k line at gains consistent p at' =
        let same = same_Some (line.over, line.under) p (sym (probe_at k line at) ∙ at') in
        let g = gains p at' in
        let near = subst (λ (q : ℕ × ℕ). IsConsistent (served_lines file) q.0 q.1) same consistent in
        probe_of_gains (its_served file) (its_claims file) (take k (its_probes file)) p (gains_far file whole (take k (its_probes file)) p g)
        ((consistent_same file p.0 p.1 (gains_edge file whole (take k (its_probes file)) p g)).0 near)

    pub fails_here : (implied conflicting : List (List ℕ)) → IsBuilt (flipped_orders file.edges) (IsTriple (served_lines file)) implied conflicting → IsProper (flipped_orders file.edges)
        → FlipsLeaveNoValley (flipped_orders file.edges) (served_lines file) →
        (k : ℕ) (line : Probe) → slice_get file.probes k ≡ Some line →
        ((IsFlipped (flipped_orders file.edges) line.over line.under × IsConsistent (served_lines file) line.over line.under) → ⊥) → ServesAt file k → ⊥
    fails_here implied conflicting built proper settled k line at none serves =
        let s = serves (line.over, line.under) (probe_at k line at) in
        let g = gains_if_serves k (line.over, line.under) s in
        let near = (consistent_same file line.over line.under (gains_edge file whole (take k (its_probes file)) (line.over, line.under) g)).1 s.consistent in
        gains_flipped file.edges (served_lines file) implied conflicting built proper settled (take k (its_probes file)) (line.over, line.under) (λ i t. none ((i, t), near)) g
