-- The given lines that a loop has passed, and the next.
use Rattle.std.proofs.Common.{◌≡◌, ◌≢◌, ℕ, zero, suc, ◌+◌, ◌<◌, ◌≤◌, inl, inr, Bool, true, false, not, List, [], ◌∷◌, ◌++◌, length, take, Option, Some, None, slice_get, refl, sym, ap, ◌∙◌}
use Rattle.std.proofs.Common.{subst, arith, eq-eqb}
use Rattle.std.specs.List.{list_any, AllByRecursion}
use Rattle.std.proofs.lemmas.Bool.{cases_Bool, false≢true}
use Rattle.std.proofs.lemmas.Option.{same_Some}
use Rattle.std.proofs.lemmas.List.{map-append}
use Rattle.std.proofs.lemmas.List.Elements.{All-from_recursion, recursion_from_All}
use Rattle.tor_arena.proofs.Gets.{take_get}
use Rattle.tor_arena.specs.Limits.{max_ratio}
use Rattle.relationships.specs.declared.given.Given.{Given}
use Rattle.relationships.specs.Graph.{Edge, edge_of, is_same}
use Rattle.relationships.proofs.Edges.{same_edge}
use Rattle.tor_numbers.specs.Edges.{with_edge}
use Rattle.result_text.specs.declared.file.ResultFile.{ResultFile}
use Rattle.result_rules.specs.File.{its_givens}
use Rattle.result_rules.specs.declared.rule.Rule.TheVariants.{HeadSound}
use Rattle.result_rules.specs.Rules.{Asks, IsNewGiven, IsMet, BreaksFirst}
use Rattle.line_rules.specs.GivenHeads.{IsNewGivenAt, edges_given}
use Rattle.line_rules.specs.Breaches.{First}

-- ---- edges of givens

abbrev edge_in : Given → Edge
edge_in g = edge_of g.over g.under

same_self : (e : Edge) → is_same e e ≡ true
same_self e = rw (eq-eqb e.0 e.0 refl, eq-eqb e.1 e.1 refl) refl

-- an edge that is not among those of the givens is that of none
apart_from : (e : Edge) (givens : List Given) → list_any (is_same e) (edges_given givens) ≡ false → AllByRecursion (λ (g : Given). edge_in g ≢ e) givens
apart_from e [] h = tt
apart_from e (g ∷ givens) h = elim (cases_Bool (is_same e (edge_in g))) [
  | inl t ↦ absurd (false≢true (sym h ∙ rw t refl))
  | inr n ↦ ((λ same. false≢true (sym n ∙ subst (λ (f : Edge). is_same e f ≡ true) (sym same) (same_self e))), apart_from e givens (rw n at h))
]

-- one that is among them is that of a given
known_among : (e : Edge) (givens : List Given) → list_any (is_same e) (edges_given givens) ≡ true → AllByRecursion (λ (g : Given). edge_in g ≢ e) givens → ⊥
known_among e [] h a = absurd (false≢true h)
known_among e (g ∷ givens) h a = elim (cases_Bool (is_same e (edge_in g))) [
  | inl t ↦ a.0 (sym (same_edge e (edge_in g) t))
  | inr n ↦ known_among e givens (rw n at h) a.1
]

-- what a table says of an edge that it was given
pub was_there : (there is_new : Bool) → is_new ≡ not there → is_new ≡ false → there ≡ true
was_there true is_new e f = refl
was_there false is_new e f = absurd (false≢true (sym f ∙ e))

pub was_not_there : (there is_new : Bool) → is_new ≡ not there → is_new ≡ true → there ≡ false
was_not_there true is_new e t = absurd (false≢true (sym e ∙ t))
was_not_there false is_new e t = refl

-- ---- the next given, where the table has the edges of those before

module _ (file : ResultFile) (k : ℕ) (given : Given) (at : slice_get (its_givens file) k ≡ Some given) (table : List Edge)
    (known : table ≡ edges_given (take k (its_givens file))) where
  pub not_new : list_any (is_same (edge_in given)) table ≡ true → IsNewGivenAt file k → ⊥
  not_new h new =
      known_among (edge_in given) (take k (its_givens file)) (subst (λ (es : List Edge). list_any (is_same (edge_in given)) es ≡ true) known h)
      (recursion_from_All (λ (g : Given). edge_in g ≢ edge_in given) (take k (its_givens file)) (new given at).new)

  pub is_new : given.over ≢ given.under → list_any (is_same (edge_in given)) table ≡ false → IsNewGivenAt file k
  is_new two h other at' = subst (IsNewGiven file k) (same_Some _ _ (sym at ∙ at')) here
    where
      here : IsNewGiven file k given
      here = record {
        two = two;
        new = All-from_recursion (λ (g : Given). edge_in g ≢ edge_in given) (take k (its_givens file))
            (apart_from (edge_in given) (take k (its_givens file)) (subst (λ (es : List Edge). list_any (is_same (edge_in given)) es ≡ false) known h));
      }

  pub known_more : (more : List Edge) → list_any (is_same (edge_in given)) table ≡ false → more ≡ with_edge table (edge_in given) →
      more ≡ edges_given (take (k + 1) (its_givens file))
  known_more more h is =
      is ∙ pushed ∙ ap (λ (es : List Edge). es ++ edge_in given ∷ []) known ∙ sym (ap edges_given (take_get (its_givens file) k given at)
      ∙ map-append (λ (g : Given). edge_of g.over g.under) (take k (its_givens file)) (given ∷ []))
    where
      pushed : with_edge table (edge_in given) ≡ table ++ edge_in given ∷ []
      pushed = rw h refl

-- ---- the head

-- the line of the ratio is the first that is asked
pub ratio_breaks : (file : ResultFile) → (file.ratio ≤ max_ratio → ⊥) → BreaksFirst file HeadSound 0
ratio_breaks file over = record { within = omega arith; breach = over; before = λ j lt. absurd (omega (arith, lt)) }

-- and behind it come the given lines
module _ (file : ResultFile) (bounded : file.ratio ≤ max_ratio) where
  head_before : (n : ℕ) → ((j : ℕ) → j < n → IsNewGivenAt file j) → (j : ℕ) → j < suc n → Asks file HeadSound j
  head_before n new zero lt = bounded
  head_before n new (suc j) lt = new j (omega (arith, lt))

  pub given_breaks : (found : Option ℕ) → First (IsNewGivenAt file) (length (its_givens file)) found → (place : ℕ) → found ≡ Some place → BreaksFirst file HeadSound (suc place)
  given_breaks found first place is =
      let f : First (IsNewGivenAt file) (length (its_givens file)) (Some place) = subst (First (IsNewGivenAt file) (length (its_givens file))) is first in
      let lt = f.0 in
      record { within = omega (arith, lt); breach = f.1; before = head_before place f.2 }

  pub head_met : (found : Option ℕ) → First (IsNewGivenAt file) (length (its_givens file)) found → found ≡ None → IsMet file HeadSound
  head_met found first is =
      let f : First (IsNewGivenAt file) (length (its_givens file)) None = subst (First (IsNewGivenAt file) (length (its_givens file))) is first in
      λ j lt. head_before (length (its_givens file)) f j (omega (arith, lt))
