-- When a mark is borne out.
use Rattle.std.proofs.Common.{◌≡◌, ◌↔◌, ◌⊎◌, inl, inr, ℕ, Bool, true, IsTrue, List, Some, slice_get, refl, sym, ap, ◌∙◌, subst, Any, Contains}
use Rattle.std.proofs.lemmas.Bool.{false≢true}
use Rattle.std.proofs.lemmas.Option.{same_Some}
use Rattle.relationships.specs.declared.label.Label.{Label}
use Rattle.relationships.specs.declared.label.Label.TheVariants as label
use Rattle.relationships.specs.Evidence.{Closure}
use Rattle.relationships.specs.Checking.{IsBorneOut}
use Rattle.relationships.specs.declared.mark.Mark.{Mark}
use Rattle.relationships.specs.declared.mark.Mark.TheVariants.{Forced, Open}
use Rattle.result_text.specs.declared.file.EdgeLine.{EdgeLine}
use Rattle.result_text.specs.declared.file.ResultFile.{ResultFile}
use Rattle.relationships.specs.Marking.{is_forced}
use Rattle.relationships.specs.Graph.{edges}
use Rattle.result_rules.specs.File.{claim_on, its_edges, its_paths, its_probes, shown_orders}
use Rattle.result_rules.specs.Rules.{its_served}
use Rattle.line_rules.specs.Flipping.{flipped_by, flipped, flipped_orders, served_lines}
use Rattle.line_rules.specs.Serving.{IsCovered, IsShownBy, MarkedAt, is_borne}
use Rattle.tor_arena.proofs.Gets.{slice_get-map}
use Rattle.line_rules.proofs.Carrying.{any_same, line_edge}

-- the two tests decide
borne_exactly : (kept : List (List ℕ)) (orders probes : List (ℕ × ℕ)) (low high : ℕ) (mark : Mark) (l : Label) (shown covered : Bool) →
    IsTrue shown ↔ (Contains orders (low, high) ⊎ Contains orders (high, low)) →
    IsTrue covered ↔ Any (λ p. Closure kept p.0 p.1 (flipped_by l low high).0 (flipped_by l low high).1) probes →
    IsTrue (is_borne mark l shown covered) ↔ IsBorneOut kept orders probes (record { low = low; high = high; label = l; forced = is_forced mark })
borne_exactly kept orders probes low high Forced l shown covered s v = (
  λ t. inl (refl, s.0 t),
  λ b. elim b [ inl h ↦ s.1 h.1 | inr h ↦ elim h [ inl f ↦ absurd (false≢true (sym f.0)) | inr f ↦ absurd (false≢true (sym f.0)) ] ],
)
borne_exactly kept orders probes low high Open label.Peer shown covered s v = (λ t. inr (inl (refl, refl)), λ b. refl)
borne_exactly kept orders probes low high Open label.Low shown covered s v = (
  λ t. inr (inr (refl, (high, low, inl (refl, refl, refl), v.0 t))),
  λ b. elim b [
    | inl h ↦ absurd (false≢true h.0)
    | inr h ↦ elim h [
      | inl p ↦ absurd (cc p.1)
      | inr (f, (over, under, other, a)) ↦ elim other [
        | inl o ↦ v.1 (subst (λ w. Any (λ p. Closure kept p.0 p.1 w low) probes) o.1 (subst (λ w. Any (λ p. Closure kept p.0 p.1 over w) probes) o.2 a))
        | inr o ↦ absurd (cc o.0)
      ]
    ]
  ],
)
borne_exactly kept orders probes low high Open label.High shown covered s v = (
  λ t. inr (inr (refl, (low, high, inr (refl, refl, refl), v.0 t))),
  λ b. elim b [
    | inl h ↦ absurd (false≢true h.0)
    | inr h ↦ elim h [
      | inl p ↦ absurd (cc p.1)
      | inr (f, (over, under, other, a)) ↦ elim other [
        | inl o ↦ absurd (cc o.0)
        | inr o ↦ v.1 (subst (λ w. Any (λ p. Closure kept p.0 p.1 w high) probes) o.1 (subst (λ w. Any (λ p. Closure kept p.0 p.1 over w) probes) o.2 a))
      ]
    ]
  ],
)

module _ (file : ResultFile) where
  pub marked_at : its_edges file ≡ edges (its_paths file) → (rounds : List ℕ) (shown : List Bool) (k round : ℕ) (line : EdgeLine) (is_shown covered : Bool) →
      slice_get file.edges k ≡ Some line → slice_get shown k ≡ Some is_shown
      → slice_get rounds k ≡ Some round →
      IsTrue covered ↔ (round ≡ 1) → IsShownBy file.edges (shown_orders file.whys) shown → IsCovered (served_lines file) (flipped_orders file.edges) (its_probes file) rounds 1 →
      IsTrue (is_borne line.mark line.label is_shown covered) ↔ MarkedAt file k
  marked_at whole rounds shown k round line is_shown covered at at_shown at_round test by_shown by_rounds =
      let s : IsTrue is_shown ↔ (Contains (shown_orders file.whys) (line.low, line.high) ⊎ Contains (shown_orders file.whys) (line.high, line.low)) = (
        λ t. (by_shown k line at).0 (at_shown ∙ ap (λ b. Some b) t),
        λ h. same_Some is_shown true (sym at_shown ∙ (by_shown k line at).1 h),
      ) in
      let flips = slice_get-map flipped file.edges k line at in
      let same = any_same file (its_probes file) (flipped line).0 (flipped line).1 (line_edge file whole k line at) in
      let v : IsTrue covered ↔ Any (λ p. Closure (its_served file) p.0 p.1 (flipped line).0 (flipped line).1) (its_probes file) = (
        λ t. same.0 ((by_rounds k (flipped line).0 (flipped line).1 flips).0 (at_round ∙ ap (λ m. Some m) (test.0 t))),
        λ a. test.1 (same_Some round 1 (sym at_round ∙ (by_rounds k (flipped line).0 (flipped line).1 flips).1 (same.1 a))),
      ) in
      let b = borne_exactly (its_served file) (shown_orders file.whys) (its_probes file) line.low line.high line.mark line.label is_shown covered s v in (
        λ t line' at'. subst (λ l. IsBorneOut (its_served file) (shown_orders file.whys) (its_probes file) (claim_on l)) (same_Some line line' (sym at ∙ at')) (b.0 t),
        λ m. b.1 (m line at),
      )
