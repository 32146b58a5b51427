-- Pairs of steps that are noted once.
use Rattle.std.proofs.Common.{Result, Ok, Err, OnOk, ◌≡◌, ◌⊎◌, inl, inr, ℕ, ◌+◌, ◌-◌, ◌<◌, ◌≤◌, Bool, true, false, List, [], length, get_or, replicate, slice_index, refl, sym, ap, ◌∙◌, subst}
use Rattle.std.proofs.Common.{arith, Contains}
use Rattle.std.proofs.lemmas.List.{length-map, length-replicate}
use Rattle.tor_arena.specs.Limits.{most_places}
use Rattle.relationships.specs.Evidence.{IsTriple}
use Rattle.result_text.specs.declared.file.EdgeLine.{EdgeLine}
use Rattle.line_rules.specs.declared.edges.step.Step.{Step}
use Rattle.line_rules.specs.Neighbours.{HasNext, with_next}
use Rattle.line_rules.specs.Flipping.{climbs_on, number_of_steps, SameRows, HaveArcs, AreNoted, flipped, flipped_orders, IsBuilt, IsProper, TripleBefore, with_implied, with_conflicting}
use Rattle.line_rules.specs.EdgeLines.{edges_of}
use Rattle.line_rules.specs.PathSteps.{place_in, IsCodedStep, AreCodedSteps}
use Rattle.line_rules.proofs.Buildings.{length-with_next, next_cases, next_kept, next_last, path_more, length-with_implied, length-with_conflicting}
use Rattle.line_rules.proofs.Climbing.{climb}
use Rattle.tor_arena.proofs.Gets.{Contains-none, slice_get-replicate}
use Rattle.line_rules.proofs.StepLemmas.{length-steps, inside_lines, step_at}
use Rattle.line_rules.proofs.Turning.{steps_turned, steps_numbered}

-- ---- rows with the same edges

pub same-rows : (rows rows' : List (List ℕ)) → rows ≡ rows' → SameRows rows rows'
same-rows rows rows' e = (ap length e, λ i j. (λ h. subst (λ l. HasNext l i j) e h, λ h. subst (λ l. HasNext l i j) (sym e) h))

same-on : (a b c : List (List ℕ)) → SameRows a b → SameRows b c → SameRows a c
same-on a b c h k = (h.0 ∙ k.0, λ i j. (λ n. (k.1 i j).0 ((h.1 i j).0 n), λ n. (h.1 i j).1 ((k.1 i j).1 n)))

-- an edge that stands in the row already
same-next : (rows : List (List ℕ)) (a b : ℕ) → a < length rows → HasNext rows a b → SameRows rows (with_next rows a b)
same-next rows a b lt there = (
  sym (length-with_next rows a b),
  λ i j. (
    λ n. next_kept rows a b i j lt n,
    λ n. elim (next_cases rows a b i j lt n) [
      | inl m ↦ m
      | inr e ↦ subst (λ k. HasNext rows k j) (sym e.0) (subst (λ k. HasNext rows a k) (sym e.1) there)
    ],
  ),
)

-- ---- what is there already

pub same-implied : (up up' : Bool) (a b : ℕ) (implied conflicting : List (List ℕ)) → a < length implied → b < length implied → HaveArcs up up' a b implied conflicting →
    SameRows implied (with_implied up up' a b implied)
same-implied true true a b implied conflicting lt lt' h = same-next implied a b lt h
same-implied false false a b implied conflicting lt lt' h = same-next implied b a lt' h
same-implied true false a b implied conflicting lt lt' h = same-rows implied implied refl
same-implied false true a b implied conflicting lt lt' h = same-rows implied implied refl

pub same-conflicting : (up up' : Bool) (a b : ℕ) (implied conflicting : List (List ℕ)) → a < length conflicting → b < length conflicting → HaveArcs up up' a b implied conflicting →
    SameRows conflicting (with_conflicting up up' a b conflicting)
same-conflicting true true a b implied conflicting lt lt' h = same-rows conflicting conflicting refl
same-conflicting false false a b implied conflicting lt lt' h = same-rows conflicting conflicting refl
same-conflicting false true a b implied conflicting lt lt' h = same-rows conflicting conflicting refl
same-conflicting true false a b implied conflicting lt lt' h =
    let more = with_next conflicting a b in
    let within : b < length more = omega (arith, lt', length-with_next conflicting a b) in
    same-on conflicting more (with_next more b a) (same-next conflicting a b lt h.0) (same-next more b a within (next_kept conflicting a b b a lt h.1))

-- ---- one pair more

kept-implied : (up up' : Bool) (a b i j : ℕ) (rows : List (List ℕ)) → a < length rows → b < length rows → HasNext rows i j → HasNext (with_implied up up' a b rows) i j
kept-implied true true a b i j rows lt lt' h = next_kept rows a b i j lt h
kept-implied false false a b i j rows lt lt' h = next_kept rows b a i j lt' h
kept-implied true false a b i j rows lt lt' h = h
kept-implied false true a b i j rows lt lt' h = h

kept-conflicting : (up up' : Bool) (a b i j : ℕ) (rows : List (List ℕ)) → a < length rows → b < length rows → HasNext rows i j → HasNext (with_conflicting up up' a b rows) i j
kept-conflicting true true a b i j rows lt lt' h = h
kept-conflicting false false a b i j rows lt lt' h = h
kept-conflicting false true a b i j rows lt lt' h = h
kept-conflicting true false a b i j rows lt lt' h =
    let within : b < length (with_next rows a b) = omega (arith, lt', length-with_next rows a b) in
    next_kept (with_next rows a b) b a i j within (next_kept rows a b i j lt h)

-- arcs stay
arcs-kept : (up up' : Bool) (a b c d : ℕ) (implied conflicting implied' conflicting' : List (List ℕ)) → ((i j : ℕ) → HasNext implied i j → HasNext implied' i j) →
    ((i j : ℕ) → HasNext conflicting i j → HasNext conflicting' i j) → HaveArcs up up' c d implied conflicting → HaveArcs up up' c d implied' conflicting'
arcs-kept true true a b c d implied conflicting implied' conflicting' k k' h = k c d h
arcs-kept false false a b c d implied conflicting implied' conflicting' k k' h = k d c h
arcs-kept true false a b c d implied conflicting implied' conflicting' k k' h = (k' c d h.0, k' d c h.1)
arcs-kept false true a b c d implied conflicting implied' conflicting' k k' h = tt

arcs-new : (up up' : Bool) (a b : ℕ) (implied conflicting : List (List ℕ)) → a < length implied → b < length implied → a < length conflicting → b < length conflicting →
    HaveArcs up up' a b (with_implied up up' a b implied) (with_conflicting up up' a b conflicting)
arcs-new true true a b implied conflicting lt lt' k k' = next_last implied a b a b lt refl refl
arcs-new false false a b implied conflicting lt lt' k k' = next_last implied b a b a lt' refl refl
arcs-new false true a b implied conflicting lt lt' k k' = tt
arcs-new true false a b implied conflicting lt lt' k k' =
    let more = with_next conflicting a b in
    let within : b < length more = omega (arith, k', length-with_next conflicting a b) in
    (next_kept more b a a b within (next_last conflicting a b a b k refl refl), next_last more b a b a within refl refl)

-- no number is that of two steps
pub noted-none : (lines : List EdgeLine) (numbers : List ℕ) (implied conflicting : List (List ℕ)) → ((k : ℕ) → Contains numbers k → k ≡ 0) → AreNoted lines numbers implied conflicting
noted-none lines numbers implied conflicting none s t lt lt' c = absurd (let e = none (number_of_steps s t) c in omega (arith, e))

-- where the number is there, so is what the two steps imply or rule out
pub noted-there : (lines : List EdgeLine) (numbers : List ℕ) (s t : Step) (number : ℕ) (implied conflicting : List (List ℕ)) →
    place_in s < length lines → place_in t < length lines → number ≡ number_of_steps s t → Contains numbers number → AreNoted lines numbers implied conflicting →
    HaveArcs (climbs_on lines s) (climbs_on lines t) (place_in s) (place_in t) implied conflicting
noted-there lines numbers s t number implied conflicting lt lt' e there noted = noted s t lt lt' (subst (Contains numbers) e there)

pub noted-more : (lines : List EdgeLine) (numbers numbers' : List ℕ) (first second : Step) (number : ℕ) (implied conflicting implied' conflicting' : List (List ℕ)) →
    length lines ≤ most_places → length implied ≡ length lines → length conflicting ≡ length lines → place_in first < length lines → place_in second < length lines →
    number ≡ number_of_steps first second → ((k : ℕ) → Contains numbers' k → Contains numbers k ⊎ (number ≡ k)) →
    implied' ≡ with_implied (climbs_on lines first) (climbs_on lines second) (place_in first) (place_in second) implied →
    conflicting' ≡ with_conflicting (climbs_on lines first) (climbs_on lines second) (place_in first) (place_in second) conflicting →
    AreNoted lines numbers implied conflicting → AreNoted lines numbers' implied' conflicting'
noted-more lines numbers numbers' first second number implied conflicting implied' conflicting' few many many' lt lt' n more i c noted s t ls lt'' there =
    let up = climbs_on lines first in
    let up' = climbs_on lines second in
    let a = place_in first in
    let b = place_in second in
    let k₀ : a < length implied = omega (arith, many, lt) in
    let k₁ : b < length implied = omega (arith, many, lt') in
    let k₂ : a < length conflicting = omega (arith, many', lt) in
    let k₃ : b < length conflicting = omega (arith, many', lt') in
    rw (i, c) (elim (more (number_of_steps s t) there) [
      | inl old ↦ arcs-kept (climbs_on lines s) (climbs_on lines t) a b (place_in s) (place_in t) implied conflicting (with_implied up up' a b implied) (with_conflicting up up' a b conflicting)
          (λ x y h. kept-implied up up' a b x y implied k₀ k₁ h) (λ x y h. kept-conflicting up up' a b x y conflicting k₂ k₃ h) (noted s t ls lt'' old)
      | inr is ↦
          let here = arcs-new up up' a b implied conflicting k₀ k₁ k₂ k₃ in
          elim (steps_numbered first second s t (omega (arith, few, lt)) (omega (arith, few, lt')) (omega (arith, few, ls)) (omega (arith, few, lt'')) (sym n ∙ is)) [
            | inl same ↦
                subst (λ u. HaveArcs (climbs_on lines s) (climbs_on lines u) (place_in s) (place_in u) (with_implied up up' a b implied) (with_conflicting up up' a b conflicting)) same.1
                (subst (λ u. HaveArcs (climbs_on lines u) up' (place_in u) b (with_implied up up' a b implied) (with_conflicting up up' a b conflicting)) same.0 here)
            | inr other ↦ rw (other.0, other.1) (steps_turned lines first second (with_implied up up' a b implied) (with_conflicting up up' a b conflicting) here)
          ]
    ])

-- ---- along a path

built-same : (orders : List (ℕ × ℕ)) (T : ℕ → ℕ → ℕ → Type 0) (implied conflicting implied' conflicting' : List (List ℕ)) → IsBuilt orders T implied conflicting
    → SameRows implied' implied → SameRows conflicting' conflicting → IsBuilt orders T implied' conflicting'
built-same orders T implied conflicting implied' conflicting' b s s' = record {
  implied_many = s.0 ∙ b.implied_many;
  conflicting_many = s'.0 ∙ b.conflicting_many;
  implies = λ i j. (λ h. (b.implies i j).0 ((s.1 i j).0 h), λ c. (s.1 i j).1 ((b.implies i j).1 c));
  conflicts = λ i j. (λ h. (b.conflicts i j).0 ((s'.1 i j).0 h), λ c. (s'.1 i j).1 ((b.conflicts i j).1 c));
}

pub many_same : (up up' : Bool) (a b n : ℕ) (rows rows' : List (List ℕ)) → SameRows rows' (with_implied up up' a b rows) → length rows ≡ n → length rows' ≡ n
many_same up up' a b n rows rows' s many = s.0 ∙ length-with_implied up up' a b rows ∙ many

pub many_same' : (up up' : Bool) (a b n : ℕ) (rows rows' : List (List ℕ)) → SameRows rows' (with_conflicting up up' a b rows) → length rows ≡ n → length rows' ≡ n
many_same' up up' a b n rows rows' s many = s.0 ∙ length-with_conflicting up up' a b rows ∙ many

pub noted_path_more : (lines : List EdgeLine) (path : List ℕ) (steps : List Step) (at : ℕ) (d d' : Step) (implied conflicting implied' conflicting' : List (List ℕ)) → IsProper (flipped_orders lines) →
    AreCodedSteps (edges_of lines) path steps → 2 ≤ at → at < length path → length implied ≡ length lines →
    SameRows implied' (with_implied (climbs_on lines (get_or steps (at - 2) d)) (climbs_on lines (get_or steps (at - 1) d')) (place_in (get_or steps (at - 2) d)) (place_in (get_or steps (at - 1) d'))
    implied) →
    SameRows conflicting'
    (with_conflicting (climbs_on lines (get_or steps (at - 2) d)) (climbs_on lines (get_or steps (at - 1) d')) (place_in (get_or steps (at - 2) d)) (place_in (get_or steps (at - 1) d')) conflicting) →
    (paths : List (List ℕ)) → IsBuilt (flipped_orders lines) (TripleBefore paths path at) implied conflicting → IsBuilt (flipped_orders lines) (TripleBefore paths path (at + 1)) implied' conflicting'
noted_path_more lines path steps at d d' implied conflicting implied' conflicting' proper are two within many s s' paths b =
    let long = length-steps (edges_of lines) path steps are in
    let first = get_or steps (at - 2) d in
    let second = get_or steps (at - 1) d' in
    let up = climbs_on lines first in
    let up' = climbs_on lines second in
    let i : at - 2 < length steps = omega (arith, long, two, within) in
    let j : at - 1 < length steps = omega (arith, long, two, within) in
    let e : at - 2 + 1 ≡ at - 1 = omega (arith, two) in
    let e' : at - 1 + 1 ≡ at = omega (arith, two) in
    let along = subst (λ k. IsCodedStep (edges_of lines) (slice_index path (at - 2)) (slice_index path k) first) e (step_at (edges_of lines) path steps (at - 2) d are i) in
    let along' = subst (λ k. IsCodedStep (edges_of lines) (slice_index path (at - 1)) (slice_index path k) second) e' (step_at (edges_of lines) path steps (at - 1) d' are j) in
    let lt : place_in first < length implied = (let h = inside_lines lines path steps are (at - 2) d i in omega (arith, h, many)) in
    let lt' : place_in second < length implied = (let h = inside_lines lines path steps are (at - 1) d' j in omega (arith, h, many)) in
    built-same (flipped_orders lines) (TripleBefore paths path (at + 1)) (with_implied up up' (place_in first) (place_in second) implied)
    (with_conflicting up up' (place_in first) (place_in second) conflicting) implied' conflicting'
    (path_more (flipped_orders lines) path at (place_in first) (place_in second) up up' implied conflicting (with_implied up up' (place_in first) (place_in second) implied)
    (with_conflicting up up' (place_in first) (place_in second) conflicting) proper two within
    (climb lines (slice_index path (at - 2)) (slice_index path (at - 1)) first along) (climb lines (slice_index path (at - 1)) (slice_index path at) second along') lt lt' refl refl paths b)
    s s'

-- ---- one pair of steps

pub implied_as : (up up' v v' : Bool) (a b i j : ℕ) (rows new : List (List ℕ)) → up ≡ v → up' ≡ v' → a ≡ i → b ≡ j → new ≡ with_implied up up' a b rows → new ≡ with_implied v v' i j rows
implied_as up up' v v' a b i j rows new e e' f f' h =
    h ∙ ap (λ u. with_implied u up' a b rows) e ∙ ap (λ u. with_implied v u a b rows) e' ∙ ap (λ n. with_implied v v' n b rows) f ∙ ap (λ n. with_implied v v' i n rows) f'

pub conflicting_as : (up up' v v' : Bool) (a b i j : ℕ) (rows new : List (List ℕ)) → up ≡ v → up' ≡ v' → a ≡ i → b ≡ j → new ≡ with_conflicting up up' a b rows → new ≡ with_conflicting v v' i j rows
conflicting_as up up' v v' a b i j rows new e e' f f' h =
    h ∙ ap (λ u. with_conflicting u up' a b rows) e ∙ ap (λ u. with_conflicting v u a b rows) e' ∙ ap (λ n. with_conflicting v v' n b rows) f ∙ ap (λ n. with_conflicting v v' i n rows) f'

-- where both are known of one outcome
pub on_ok_both : {X E : Type 0} (r : Result X E) (P Q R : Type 0) → (P → Q → R) → OnOk r P → OnOk r Q → OnOk r R
on_ok_both (Ok x) P Q R f p q = f p q
on_ok_both (Err e) P Q R f p q = tt

-- ---- no paths

none_next : (n i j : ℕ) → HasNext (replicate n []) i j → ⊥
none_next n i j h = Contains-none j (subst (λ l. Contains l j) (slice_get-replicate n [] i h.0 h.1) h.2)

pub built_none : (lines : List EdgeLine) (n : ℕ) (implied conflicting : List (List ℕ)) → n ≡ length lines → implied ≡ replicate n [] → conflicting ≡ replicate n [] →
    IsBuilt (flipped_orders lines) (IsTriple []) implied conflicting
built_none lines n implied conflicting many e f = rw (e, f) (record {
  implied_many = length-replicate n [] ∙ many ∙ sym (length-map lines flipped);
  conflicting_many = length-replicate n [] ∙ many ∙ sym (length-map lines flipped);
  implies = λ i j. (λ h. absurd (none_next n i j h), λ c. absurd (Contains-none c.5.0 c.5.1));
  conflicts = λ i j. (λ h. absurd (none_next n i j h), λ c. absurd (Contains-none c.5.0 c.5.1));
})
