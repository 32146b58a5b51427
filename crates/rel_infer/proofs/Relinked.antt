-- Walks and fates with changed links, one more, and the numbers of givens.
use Rattle.std.proofs.Common.{◌≡◌, ◌↔◌, ℕ, ◌+◌, Bool, true, false, List, [], ◌∷◌, ◌++◌, map, take, length, if◌then◌else◌, Option, Some, None, is_some, is_none, option_map, slice_get, refl, sym, ap}
use Rattle.std.proofs.Common.{ap₂, ◌∙◌, subst, IsNone, IsFalse}
use Rattle.std.proofs.lemmas.List.{map-append}
use Rattle.relationships.specs.declared.given.Given.{Given}
use Rattle.relationships.specs.declared.fate.Fate.{Fate}
use Rattle.relationships.specs.declared.walk.Walk.{Walk}
use Rattle.relationships.specs.Fates.{walk_of}
use Rattle.relationships.specs.Givens.{names_edge}
use Rattle.relationships.specs.GivenEvidence.{with_given_links}
use Rattle.tor_arena.proofs.Gets.{take_get}
use Rattle.rel_infer.specs.Returns.{numbers_from, AreRelinked}
use Rattle.rel_infer.proofs.ReturnRows.{numbers_push}

pub walk_more : (F : Walk → Walk) (walks : List Walk) (k id : ℕ) (w v : Walk) (old new : List Walk) → id ≡ k → slice_get walks id ≡ Some w → old ≡ map F (take k walks) →
    new ≡ old ++ v ∷ [] → v ≡ F w → new ≡ map F (take (k + 1) walks)
walk_more F walks k id w v old new same at so added is =
    added ∙ ap₂ (λ (l : List Walk) (u : Walk). l ++ u ∷ []) so is ∙ sym (map-append F (take k walks) (w ∷ [])) ∙
    ap (map F) (sym (take_get walks k w (subst (λ i. slice_get walks i ≡ Some w) same at)))

there : (o : Option Fate) (r : Option Walk) → option_map walk_of o ≡ Some r → (f : Fate) × (o ≡ Some f) × (walk_of f ≡ r)
there None r h = absurd cc
there (Some f) r h = (f, refl, cc)

pub fate_more : (n : ℕ) (numbers : List ℕ) (fates : List Fate) (k id : ℕ) (r : Option Walk) (old new : List Fate) (fate : Fate) → id ≡ k →
    option_map walk_of (slice_get fates id) ≡ Some r → AreRelinked n numbers (take k fates) old → new ≡ old ++ fate ∷ [] →
    walk_of fate ≡ option_map (with_given_links n numbers) r → AreRelinked n numbers (take (k + 1) fates) new
fate_more n numbers fates k id r old new fate same at so added is =
    let F = option_map (with_given_links n numbers) in
    let (f, found, its) = there (slice_get fates id) r at in
    let next : take (k + 1) fates ≡ take k fates ++ f ∷ [] = take_get fates k f (subst (λ i. slice_get fates i ≡ Some f) same found) in
    let walks : map walk_of (take (k + 1) fates) ≡ map walk_of (take k fates) ++ walk_of f ∷ [] = ap (map walk_of) next ∙ map-append walk_of (take k fates) (f ∷ []) in
    ap (map walk_of) added ∙ map-append walk_of old (fate ∷ []) ∙
    ap₂ (λ (l : List (Option Walk)) (u : Option Walk). l ++ u ∷ []) so (is ∙ ap F (sym its)) ∙
    sym (map-append F (map walk_of (take k fates)) (walk_of f ∷ [])) ∙ ap (map F) (sym walks)

-- ---- one given more

pub some_then : (r : Option ℕ) (b : Bool) → is_some r ≡ true → IsNone r ↔ IsFalse b → b ≡ true
some_then None b s h = absurd cc
some_then (Some x) true s h = refl
some_then (Some x) false s h = absurd (cc (h.1 refl))

pub none_then : (r : Option ℕ) (b : Bool) → is_some r ≡ false → IsNone r ↔ IsFalse b → b ≡ false
none_then None b s h = h.0 refl
none_then (Some x) b s h = absurd cc

module _ (paths : List (List ℕ)) (givens : List Given) (k : ℕ) (g : Given) (at : slice_get givens k ≡ Some g) (short : length (take k givens) ≡ k) where
  next : numbers_from paths 1 (take (k + 1) givens) ≡ numbers_from paths 1 (take k givens) ++ (if names_edge paths g then (1 + k) ∷ [] else [])
  next = ap (numbers_from paths 1) (take_get givens k g at) ∙ numbers_push paths 1 (take k givens) g ∙
      ap (λ m. numbers_from paths 1 (take k givens) ++ (if names_edge paths g then (1 + m) ∷ [] else [])) short

  pub number_more : (old new : List ℕ) (m : ℕ) → names_edge paths g ≡ true → old ≡ numbers_from paths 1 (take k givens) → new ≡ old ++ m ∷ [] → m ≡ 1 + k →
      new ≡ numbers_from paths 1 (take (k + 1) givens)
  number_more old new m named so added is =
      added ∙ ap₂ (λ (l : List ℕ) (i : ℕ). l ++ i ∷ []) so is ∙
      ap (λ b. numbers_from paths 1 (take k givens) ++ (if b then (1 + k) ∷ [] else [])) (sym named) ∙ sym next

  pub number_same : (old : List ℕ) → names_edge paths g ≡ false → old ≡ numbers_from paths 1 (take k givens) → old ≡ numbers_from paths 1 (take (k + 1) givens)
  number_same old named so = so ∙ sym (next ∙ ap (λ b. numbers_from paths 1 (take k givens) ++ (if b then (1 + k) ∷ [] else [])) named ∙ append_none (numbers_from paths 1 (take k givens)))
    where
      append_none : (l : List ℕ) → l ++ [] ≡ l
      append_none [] = refl
      append_none (x ∷ l) = ap (λ (m : List ℕ). x ∷ m) (append_none l)

-- ---- changed links change no fate

pub still_lost : (n : ℕ) (numbers : List ℕ) (walks : List (Option Walk)) → map is_none (map (option_map (with_given_links n numbers)) walks) ≡ map is_none walks
still_lost n numbers [] = refl
still_lost n numbers (None ∷ walks) = ap (λ (l : List Bool). true ∷ l) (still_lost n numbers walks)
still_lost n numbers (Some w ∷ walks) = ap (λ (l : List Bool). false ∷ l) (still_lost n numbers walks)
