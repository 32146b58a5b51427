-- Walks, as code reads them link by link.
use Rattle.std.proofs.Common.{◌≡◌, ◌↔◌, ℕ, zero, suc, ◌+◌, ◌<◌, ◌⊎◌, inl, inr, List, [], ◌∷◌, get_or, length, Option, Some, refl, ◌∙◌, subst, arith, Contains}
use Rattle.std.proofs.lemmas.Bool.{cases_lt}
use Rattle.std.proofs.lemmas.List.{get_or_default}
use Rattle.relationships.specs.declared.given.Given.{Given}
use Rattle.relationships.specs.declared.walk.Link.{Link}
use Rattle.relationships.specs.Evidence.{Numbered}
use Rattle.relationships.specs.GivenEvidence.{FitsGiven, FitsWith, IsLinkedWith}
use Rattle.line_rules.specs.Naming.{FitsOn}

-- what a link fits by itself and on the path that it names
pub fits_named : (givens : List Given) (A : Numbered) (link : Link) (named : Option (List ℕ)) (x y z : ℕ) →
    ((path : List ℕ) → Contains A (link.path, path) ↔ named ≡ Some path) →
    (FitsGiven givens link x y z ⊎ FitsOn named link.at x y z) ↔ FitsWith givens A link x y z
fits_named givens A link named x y z names = (there, back)
  where
    there : FitsGiven givens link x y z ⊎ FitsOn named link.at x y z → FitsWith givens A link x y z
    there (inl g) = inl g
    there (inr f) = inr (f.0, (names f.0).1 f.1, f.2)

    back : FitsWith givens A link x y z → FitsGiven givens link x y z ⊎ FitsOn named link.at x y z
    back (inl g) = inl g
    back (inr f) = inr (f.0, (names f.0).0 f.1, f.2)

module _ (givens : List Given) (A : Numbered) where
  -- the link in this place fits its three ASes
  abbrev pub FitsAt : List ℕ → List Link → ℕ → Link → Type 0
  FitsAt ases links k d = FitsWith givens A (get_or links k d) (get_or ases k 0) (get_or ases (k + 1) 0) (get_or ases (k + 2) 0)

  pub linked-from_index : (ases : List ℕ) (links : List Link) → length ases ≡ length links + 2 →
      ((i : ℕ) (d : Link) → i < length links → FitsAt ases links i d) → IsLinkedWith givens A ases links
  linked-from_index [] links n h = absurd (omega arith)
  linked-from_index (x ∷ []) links n h = absurd (omega arith)
  linked-from_index (x ∷ y ∷ []) [] n h = tt
  linked-from_index (x ∷ y ∷ []) (l ∷ links) n h = absurd (omega arith)
  linked-from_index (x ∷ y ∷ z ∷ ases) [] n h = absurd (omega arith)
  linked-from_index (x ∷ y ∷ z ∷ ases) (l ∷ links) n h = (
    h 0 l (omega arith),
    linked-from_index (y ∷ z ∷ ases) links (omega arith) (λ i d lt.
        let e₁ : suc i + 1 ≡ suc (i + 1) = omega arith in
        let e₂ : suc i + 2 ≡ suc (i + 2) = omega arith in
        let f = h (suc i) d (omega arith) in
        rw (e₁, e₂) at f),
  )

  pub index-from_linked : (ases : List ℕ) (links : List Link) → IsLinkedWith givens A ases links →
      (length ases ≡ length links + 2) × ((i : ℕ) (d : Link) → i < length links → FitsAt ases links i d)
  index-from_linked [] links h = absurd h
  index-from_linked (x ∷ []) links h = absurd h
  index-from_linked (x ∷ y ∷ []) [] h = (refl, λ i d lt. absurd (omega arith))
  index-from_linked (x ∷ y ∷ []) (l ∷ links) h = absurd h
  index-from_linked (x ∷ y ∷ z ∷ ases) [] h = absurd h
  index-from_linked (x ∷ y ∷ z ∷ ases) (l ∷ links) h =
      let r = index-from_linked (y ∷ z ∷ ases) links h.1 in (omega (arith, r.0), at r.1)
    where
      at : ((i : ℕ) (d : Link) → i < length links → FitsAt (y ∷ z ∷ ases) links i d) →
          (i : ℕ) (d : Link) → i < length (l ∷ links) → FitsAt (x ∷ y ∷ z ∷ ases) (l ∷ links) i d
      at rest zero d lt = h.0
      at rest (suc i) d lt =
          let e₁ : suc i + 1 ≡ suc (i + 1) = omega arith in
          let e₂ : suc i + 2 ≡ suc (i + 2) = omega arith in
          let f = rest i d (omega arith) in
          rw (e₁, e₂) f

  -- the links that a loop has passed, and the next
  pub links_more : (ases : List ℕ) (links : List Link) (i : ℕ) (link : Link) →
      ((k : ℕ) (d : Link) → k < i → FitsAt ases links k d) → i < length links → link ≡ get_or links i link →
      FitsWith givens A link (get_or ases i 0) (get_or ases (i + 1) 0) (get_or ases (i + 2) 0) →
      (k : ℕ) (d : Link) → k < i + 1 → FitsAt ases links k d
  links_more ases links i link before within is f k d lt =
      elim (cases_lt k i) [
        | inl old ↦ before k d old
        | inr ge ↦
            let e : i ≡ k = omega arith in
            subst (λ j. FitsAt ases links j d) e
            (subst (λ l. FitsWith givens A l (get_or ases i 0) (get_or ases (i + 1) 0) (get_or ases (i + 2) 0)) (is ∙ get_or_default links i link d within) f)
      ]
