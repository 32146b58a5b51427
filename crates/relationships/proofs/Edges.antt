-- Which edges a path reads: the relaxing law, the peering law and the reading law.
use Rattle.std.proofs.Common.{◌≡◌, ℕ, min, max, inl, inr, true, not, List, [], ◌∷◌, ◌++◌, flat_map, filter, refl, sym, ap, ◌∙◌, subst, arith, All, ◌==◌}
use Rattle.std.specs.List.{AllByRecursion}
use Rattle.std.proofs.lemmas.Bool.{cases_Bool, and_parts, eqb-true}
use Rattle.std.proofs.lemmas.List.Elements.{All-from_recursion, recursion_from_All}
use Rattle.relationships.specs.declared.label.Label.{Label}
use Rattle.relationships.specs.Relationship.{Labelling, label_of, labels_of, is_low, is_high, is_over, slopes_from, ValleyFree}
use Rattle.relationships.specs.Graph.{Edge, edge_of, is_same, edges_from, edges_on, distinct, edges}
use Rattle.relationships.specs.Laws.Serving.{RelaxingLaw, PeeringLaw, ReadingLaw}
use Rattle.relationships.proofs.Slopes.{over_parts, over-low, over-high, slope-up, slope-down, over-up, over-down, Falls, Free, Free-from_valley_free, ValleyFree-from_free}

pub same_edge : (e f : Edge) → is_same e f ≡ true → e ≡ f
same_edge (a, b) (c, d) h =
    let u = and_parts (a == c) (b == d) h in pair (eqb-true a c u.0) (eqb-true b d u.1)
  where
    pair : {a b c d : ℕ} → a ≡ c → b ≡ d → ◌≡◌ {A = Edge} (a, b) (c, d)
    pair e f = cc

-- ---- each edge of the paths is among the edges

unfiltered : (P : Edge → Type 0) (x : Edge) (fs : List Edge) → P x → AllByRecursion P (filter (λ f. not (is_same x f)) fs) → AllByRecursion P fs
unfiltered P x [] p h = tt
unfiltered P x (f ∷ fs) p h =
    elim (cases_Bool (is_same x f)) [
      | inl t ↦ (subst P (same_edge x f t) p, unfiltered P x fs p (rw t at h))
      | inr n ↦ let k = rw n at h in (k.0, unfiltered P x fs p k.1)
    ]

undistinct : (P : Edge → Type 0) (es : List Edge) → AllByRecursion P (distinct es) → AllByRecursion P es
undistinct P [] h = tt
undistinct P (e ∷ es) h = (h.0, undistinct P es (unfiltered P e (distinct es) h.0 h.1))

prefix : (P : Edge → Type 0) (es fs : List Edge) → AllByRecursion P (es ++ fs) → AllByRecursion P es × AllByRecursion P fs
prefix P [] fs h = (tt, h)
prefix P (e ∷ es) fs h = let k = prefix P es fs h.1 in ((h.0, k.0), k.1)

on_each_path : (P : Edge → Type 0) (paths : List (List ℕ)) → AllByRecursion P (flat_map edges_on paths) → AllByRecursion (λ path. AllByRecursion P (edges_on path)) paths
on_each_path P [] h = tt
on_each_path P (path ∷ paths) h =
    let k = prefix P (edges_on path) (flat_map edges_on paths) h in (k.0, on_each_path P paths k.1)

-- what holds at each edge of the paths holds along each path
pub along_each : (P : Edge → Type 0) (paths : List (List ℕ)) → All P (edges paths) → AllByRecursion (λ path. AllByRecursion P (edges_on path)) paths
along_each P paths h = on_each_path P paths (undistinct P (flat_map edges_on paths) (recursion_from_All P (edges paths) h))

-- ---- a labelling that agrees

abbrev pub AgreesAt : Labelling → Labelling → Edge → Type 0
AgreesAt L L' e = (L e.0 e.1 ≡ Label.Low → L' e.0 e.1 ≡ Label.Low) × (L e.0 e.1 ≡ Label.High → L' e.0 e.1 ≡ Label.High)

low_kept : (v w : Label) → (v ≡ Label.Low → w ≡ Label.Low) → is_low v ≡ true → is_low w ≡ true
low_kept Label.Low w h o = rw (h refl)
low_kept Label.High w h o = absurd (cc o)
low_kept Label.Peer w h o = absurd (cc o)

high_kept : (v w : Label) → (v ≡ Label.High → w ≡ Label.High) → is_high v ≡ true → is_high w ≡ true
high_kept Label.Low w h o = absurd (cc o)
high_kept Label.High w h o = rw (h refl)
high_kept Label.Peer w h o = absurd (cc o)

module _ (L L' : Labelling) where
  pub over_kept : (a b : ℕ) → AgreesAt L L' (edge_of a b) → is_over L a b ≡ true → is_over L' a b ≡ true
  over_kept a b agrees o =
      elim (over_parts L a b o) [
        | inl p ↦
            let e₁ : min a b ≡ a = omega arith in let e₂ : max a b ≡ b = omega arith in
            let here = subst (λ m. AgreesAt L L' (m, b)) e₁ (subst (λ m. AgreesAt L L' (min a b, m)) e₂ agrees) in
            over-low L' a b p.0 (low_kept (L a b) (L' a b) here.0 p.1)
        | inr p ↦
            let e₁ : min a b ≡ b = omega arith in let e₂ : max a b ≡ a = omega arith in
            let here = subst (λ m. AgreesAt L L' (m, a)) e₁ (subst (λ m. AgreesAt L L' (min a b, m)) e₂ agrees) in
            over-high L' b a p.0 (high_kept (L b a) (L' b a) here.1 p.1)
      ]

  over_kept_back : (a b : ℕ) → AgreesAt L L' (edge_of a b) → is_over L b a ≡ true → is_over L' b a ≡ true
  over_kept_back a b agrees o =
      let e₁ : min a b ≡ min b a = omega arith in let e₂ : max a b ≡ max b a = omega arith in
      over_kept b a (subst (λ m. AgreesAt L L' (m, max b a)) e₁ (subst (λ m. AgreesAt L L' (min a b, m)) e₂ agrees)) o

  falls_kept : (a : ℕ) (path : List ℕ) → AllByRecursion (AgreesAt L L') (edges_from a path) → Falls (slopes_from L a path) → Falls (slopes_from L' a path)
  falls_kept a [] g h = tt
  falls_kept a (b ∷ path) g h = (slope-down L' a b (over_kept a b g.0 (over-down L a b h.0)), falls_kept b path g.1 h.1)

  free_kept : (a : ℕ) (path : List ℕ) → AllByRecursion (AgreesAt L L') (edges_from a path) → Free (slopes_from L a path) → Free (slopes_from L' a path)
  free_kept a [] g h = tt
  free_kept a (b ∷ path) g (inl p) = inl (slope-up L' a b (over_kept_back a b g.0 (over-up L a b p.0)), free_kept b path g.1 p.1)
  free_kept a (b ∷ path) g (inr f) = inr (falls_kept b path g.1 f)

  valley_free_kept : (path : List ℕ) → AllByRecursion (AgreesAt L L') (edges_on path) → ValleyFree L path → ValleyFree L' path
  valley_free_kept [] g v = (0, 0, inl refl)
  valley_free_kept (a ∷ path) g v = ValleyFree-from_free L' (a ∷ path) (free_kept a path g (Free-from_valley_free L (a ∷ path) v))

  each_kept : (paths : List (List ℕ)) → AllByRecursion (λ path. AllByRecursion (AgreesAt L L') (edges_on path)) paths → AllByRecursion (ValleyFree L) paths → AllByRecursion (ValleyFree L') paths
  each_kept [] g h = tt
  each_kept (path ∷ paths) g h = (valley_free_kept path g.0 h.0, each_kept paths g.1 h.1)

pub relaxing_law : RelaxingLaw
relaxing_law L L' paths agrees h =
    All-from_recursion (ValleyFree L') paths (each_kept L L' paths (along_each (AgreesAt L L') paths agrees) (recursion_from_All (ValleyFree L) paths h))

pub peering_law : PeeringLaw
peering_law L paths h O agrees = relaxing_law L (labels_of O) paths agrees h

pub reading_law : ReadingLaw
reading_law O O' paths same serves =
    relaxing_law (labels_of O) (labels_of O') paths
    (λ k d within. (λ e. ap label_of (sym (same k d within)) ∙ e, λ e. ap label_of (sym (same k d within)) ∙ e)) serves
