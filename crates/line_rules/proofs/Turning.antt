-- Two consecutive steps, and the same the other way round.
use Rattle.std.proofs.Common.{◌≡◌, ◌⊎◌, inl, inr, ℕ, zero, suc, ◌+◌, ◌*◌, ◌%◌, ◌<◌, Bool, true, false, not, if◌then◌else◌, List, get_or, refl, sym, ap, ap₂, ◌∙◌, arith}
use Rattle.std.specs.Prelude.{◌^◌, nat_lt}
use Rattle.std.proofs.lemmas.Bool.{cases_Bool}
use Rattle.tor_arena.specs.Limits.{most_places}
use Rattle.relationships.specs.declared.label.End.{End}
use Rattle.relationships.specs.declared.label.Label.{Label}
use Rattle.relationships.specs.declared.label.Label.TheVariants as label
use Rattle.relationships.specs.Relationship.{opposite}
use Rattle.result_text.specs.declared.file.EdgeLine.{EdgeLine}
use Rattle.line_rules.specs.declared.edges.step.Step.{Step}
use Rattle.line_rules.specs.Flipping.{climbs, climbs_on, HaveArcs, code_pair, number_of_steps}
use Rattle.line_rules.specs.PathSteps.{turned, place_in, left_in, labels_on}

-- ---- one step the other way round

abbrev pub turned_step : Step → Step
turned_step s = record { code = turned s }

halves : (c : ℕ) → (c % 2 ≡ 0) ⊎ (c % 2 ≡ 1)
halves c = below (c % 2) (omega arith)
  where
    below : (m : ℕ) → m < 2 → (m ≡ 0) ⊎ (m ≡ 1)
    below zero h = inl refl
    below (suc zero) h = inr refl
    below (suc (suc m)) h = absurd (omega (arith, h))

place_turned : (s : Step) → place_in (turned_step s) ≡ place_in s
place_turned s = omega arith

turned_twice : (s : Step) → turned (turned_step s) ≡ s.code
turned_twice s = omega arith

left_turned : (s : Step) → left_in (turned_step s) ≡ opposite (left_in s)
left_turned s = elim (halves s.code) [
  | inl low ↦ (let e : turned s % 2 ≡ 1 = omega (arith, low) in rw (e, low) refl)
  | inr high ↦ (let e : turned s % 2 ≡ 0 = omega (arith, high) in rw (e, high) refl)
]

climbs_turned : (l : Label) (left : End) → climbs l (opposite left) ≡ not (climbs l left)
climbs_turned label.Low End.Low = refl
climbs_turned label.Low End.High = refl
climbs_turned label.High End.Low = refl
climbs_turned label.High End.High = refl
climbs_turned label.Peer End.Low = refl
climbs_turned label.Peer End.High = refl

climbs_on_turned : (lines : List EdgeLine) (s : Step) → climbs_on lines (turned_step s) ≡ not (climbs_on lines s)
climbs_on_turned lines s =
    ap₂ (λ k left. climbs (get_or (labels_on lines) k label.Peer) left) (place_turned s) (left_turned s) ∙
    climbs_turned (get_or (labels_on lines) (place_in s) label.Peer) (left_in s)

arcs_turned : (up up' : Bool) (a b : ℕ) (implied conflicting : List (List ℕ)) → HaveArcs up up' a b implied conflicting → HaveArcs (not up') (not up) b a implied conflicting
arcs_turned true true a b implied conflicting h = h
arcs_turned false false a b implied conflicting h = h
arcs_turned true false a b implied conflicting h = (h.1, h.0)
arcs_turned false true a b implied conflicting h = tt

-- what two steps imply or rule out they do the other way round too
pub steps_turned : (lines : List EdgeLine) (s t : Step) (implied conflicting : List (List ℕ)) →
    HaveArcs (climbs_on lines s) (climbs_on lines t) (place_in s) (place_in t) implied conflicting →
    HaveArcs (climbs_on lines (turned_step t)) (climbs_on lines (turned_step s)) (place_in (turned_step t)) (place_in (turned_step s)) implied conflicting
steps_turned lines s t implied conflicting h =
    rw (climbs_on_turned lines s, climbs_on_turned lines t, place_turned s, place_turned t)
    (arcs_turned (climbs_on lines s) (climbs_on lines t) (place_in s) (place_in t) implied conflicting h)

-- ---- two pairs of steps with one number

code_small : (s : Step) → place_in s < most_places → (s.code < 2 ^ 32) × (turned s < 2 ^ 32)
code_small s h = (omega (arith, h), omega (arith, h))

second_small : (s t : Step) → place_in s < most_places → place_in t < most_places → (code_pair s t).1 < 2 ^ 32
second_small s t h k = elim (cases_Bool (nat_lt (turned t) s.code)) [
  | inl yes' ↦ rw yes' (code_small s h).1
  | inr no' ↦ rw no' (code_small t k).0
]

abbrev pair : ℕ → ℕ → ℕ × ℕ
pair m n = (m, n)

same_pair : (e f : ℕ × ℕ) → e.1 < 2 ^ 32 → f.1 < 2 ^ 32 → e.0 * 2 ^ 32 + e.1 + 2 ≡ f.0 * 2 ^ 32 + f.1 + 2 → e ≡ f
same_pair e f a b h = ap₂ pair (omega (arith, a, b, h)) (omega (arith, a, b, h))

abbrev step_with : ℕ → Step
step_with n = record { code = n }

-- the steps are the same, or the same the other way round
pub steps_numbered : (s t s' t' : Step) → place_in s < most_places → place_in t < most_places → place_in s' < most_places → place_in t' < most_places →
    number_of_steps s t ≡ number_of_steps s' t' → ((s ≡ s') × (t ≡ t')) ⊎ ((s' ≡ turned_step t) × (t' ≡ turned_step s))
steps_numbered s t s' t' h k h' k' e =
    let same : code_pair s t ≡ code_pair s' t' = same_pair (code_pair s t) (code_pair s' t') (second_small s t h k) (second_small s' t' h' k') e in
    by_pairs (nat_lt (turned t) s.code) (nat_lt (turned t') s'.code) same
  where
    as_pair : Bool → Step → Step → ℕ × ℕ
    as_pair flag a b = if flag then (turned b, turned a) else (a.code, b.code)

    by_pairs : (flag flag' : Bool) → as_pair flag s t ≡ as_pair flag' s' t' → ((s ≡ s') × (t ≡ t')) ⊎ ((s' ≡ turned_step t) × (t' ≡ turned_step s))
    by_pairs false false q = inl (ap step_with (ap (λ (p : ℕ × ℕ). p.0) q), ap step_with (ap (λ (p : ℕ × ℕ). p.1) q))
    by_pairs true false q = inr (ap step_with (sym (ap (λ (p : ℕ × ℕ). p.0) q)), ap step_with (sym (ap (λ (p : ℕ × ℕ). p.1) q)))
    by_pairs false true q =
        let first : s.code ≡ turned t' = ap (λ (p : ℕ × ℕ). p.0) q in
        let second : t.code ≡ turned s' = ap (λ (p : ℕ × ℕ). p.1) q in
        inr (
          ap step_with (sym (turned_twice s') ∙ ap (λ n. turned (step_with n)) (sym second)),
          ap step_with (sym (turned_twice t') ∙ ap (λ n. turned (step_with n)) (sym first)),
        )
    by_pairs true true q = inl (
      ap step_with (sym (turned_twice s) ∙ ap (λ n. turned (step_with n)) (ap (λ (p : ℕ × ℕ). p.1) q) ∙ turned_twice s'),
      ap step_with (sym (turned_twice t) ∙ ap (λ n. turned (step_with n)) (ap (λ (p : ℕ × ℕ). p.0) q) ∙ turned_twice t'),
    )
