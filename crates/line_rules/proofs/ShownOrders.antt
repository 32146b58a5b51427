-- The order that a walk shows, as code finds it.
use Rattle.std.proofs.Common.{◌≡◌, ◌↔◌, ℕ, zero, suc, ◌+◌, ◌<◌, ◌≤◌, inl, inr, Bool, IsTrue, List, [], ◌∷◌, ◌++◌, get_or, length, take, Some, slice_get, refl, sym, ap, ◌∙◌, subst, arith}
use Rattle.std.specs.Prelude.{Contains}
use Rattle.std.proofs.lemmas.Grind.{flat_map-append}
use Rattle.std.proofs.lemmas.List.{take_more}
use Rattle.std.proofs.lemmas.Option.{slice_get_within, get_or_from_slice_get, same_Some}
use Rattle.relationships.specs.declared.walk.Walk.{Walk}
use Rattle.relationships.specs.Evidence.{Numbered, EndsWith}
use Rattle.relationships.specs.declared.given.Given.{Given}
use Rattle.relationships.specs.GivenEvidence.{ShowsWith}
use Rattle.result_text.specs.declared.file.ResultFile.{ResultFile}
use Rattle.result_rules.specs.File.{its_givens, its_kept, last_two, shown_orders}
use Rattle.result_rules.specs.declared.rule.Rule.TheVariants.{OrdersShown}
use Rattle.result_rules.specs.Rules.{Asks}
use Rattle.line_rules.specs.Showing.{Starts}
use Rattle.result_rules.proofs.WalkLaws.{last_two-from_ends}

-- fewer than two
pub last_two-few : (ases : List ℕ) → length ases < 2 → last_two ases ≡ []
last_two-few [] lt = refl
last_two-few (a ∷ []) lt = refl
last_two-few (a ∷ b ∷ ases) lt = absurd (omega arith)

pub last_two-at : (ases : List ℕ) (k : ℕ) → length ases ≡ k + 2 → last_two ases ≡ (get_or ases k 0, get_or ases (k + 1) 0) ∷ []
last_two-at [] k e = absurd (omega arith)
last_two-at (a ∷ []) k e = absurd (omega arith)
last_two-at (a ∷ b ∷ []) k e = let n : k ≡ 0 = omega arith in rw n refl
last_two-at (a ∷ b ∷ c ∷ ases) zero e = absurd (omega arith)
last_two-at (a ∷ b ∷ c ∷ ases) (suc k) e =
    let n : suc k + 1 ≡ suc (k + 1) = omega arith in
    rw n (last_two-at (b ∷ c ∷ ases) k (omega arith))

pub ends-from_last_two : (ases : List ℕ) (a b : ℕ) → last_two ases ≡ (a, b) ∷ [] → EndsWith ases a b
ends-from_last_two [] a b e = absurd cc
ends-from_last_two (c ∷ []) a b e = absurd cc
ends-from_last_two (c ∷ d ∷ []) a b e = ([], two (ap (λ l. get_or l 0 (0, 0)) e))
  where
    two : ◌≡◌ {A = ℕ × ℕ} (c, d) (a, b) → c ∷ d ∷ [] ≡ a ∷ b ∷ []
    two e = let f = ap (λ (p : ℕ × ℕ). p.0) e in let g = ap (λ (p : ℕ × ℕ). p.1) e in cc
ends-from_last_two (c ∷ d ∷ f ∷ ases) a b e =
    let r = ends-from_last_two (d ∷ f ∷ ases) a b e in
    (c ∷ r.0, ap (λ (l : List ℕ). c ∷ l) r.1)

-- what a walk shows is the order of its last two
pub shows_last : (givens : List Given) (A : Numbered) (shown : List (ℕ × ℕ)) (w : Walk) (over under a b : ℕ) → last_two w.ases ≡ (over, under) ∷ [] →
    ShowsWith givens A shown w a b → ShowsWith givens A shown w over under
shows_last givens A shown w over under a b e s =
    let same = ap (λ l. get_or l 0 (0, 0)) (sym (last_two-from_ends w.ases a b s.ends) ∙ e) in
    subst (λ (p : ℕ × ℕ). ShowsWith givens A shown w p.0 p.1) same s

pub shows_none : (givens : List Given) (A : Numbered) (shown : List (ℕ × ℕ)) (w : Walk) (a b : ℕ) → last_two w.ases ≡ [] → ShowsWith givens A shown w a b → ⊥
shows_none givens A shown w a b e s =
    let n = ap length (sym (last_two-from_ends w.ases a b s.ends) ∙ e) in
    absurd (omega arith)

-- ---- the why lines that a loop has passed, and the next. The lines are those of the file, and the orders are those that the
-- lines before the next show

module _ (file : ResultFile) (k : ℕ) (walk : Walk) (at : slice_get file.whys k ≡ Some walk) where
  in_file : k < length file.whys
  in_file = slice_get_within file.whys k walk at

  pub orders_more : (shown shown' : List (ℕ × ℕ)) (a b : ℕ) → shown ≡ shown_orders (take k file.whys) → shown' ≡ shown ++ (a, b) ∷ [] → EndsWith walk.ases a b →
      shown' ≡ shown_orders (take (k + 1) file.whys)
  orders_more shown shown' a b before more ends =
      let orders = shown_orders (take k file.whys) in
      let e = last_two-from_ends walk.ases a b ends in
      more ∙ ap (λ l. l ++ (a, b) ∷ []) before ∙ sym (ap shown_orders (take_more file.whys k walk in_file) ∙
      flat_map-append (λ (w : Walk). last_two w.ases) (take k file.whys) (get_or file.whys k walk ∷ []) ∙
      ap (λ (w : Walk). orders ++ (last_two w.ases ++ [])) (get_or_from_slice_get file.whys k walk walk at) ∙ ap (λ l. orders ++ (l ++ [])) e)

  pub asks_shown : (shown : List (ℕ × ℕ)) → shown ≡ shown_orders (take k file.whys) →
      (k < length file.whys) × (((a b : ℕ) × ShowsWith (its_givens file) (its_kept file) shown walk a b) ↔ Asks file OrdersShown k)
  asks_shown shown before = (
    in_file,
    (
      λ h other at'. subst (λ (w : Walk). (a b : ℕ) × ShowsWith (its_givens file) (its_kept file) (shown_orders (take k file.whys)) w a b) (same_Some _ _ (sym at ∙ at')) (rw before at h),
      λ asks. rw before (asks walk at),
    ),
  )

-- where they don't begin with this order, the order with which they begin has to be shown
pub starts_if : (ases : List ℕ) (shown : List (ℕ × ℕ)) (over under : ℕ) (known : Bool) → 2 ≤ length ases → (get_or ases 0 0 ≡ under → get_or ases 1 0 ≡ over → ⊥)
    → IsTrue known ↔ Contains shown (get_or ases 0 0, get_or ases 1 0) → IsTrue known ↔ Starts ases shown over under
starts_if [] shown over under known two other has = absurd (omega (arith, two))
starts_if (x ∷ []) shown over under known two other has = absurd (omega (arith, two))
starts_if (x ∷ y ∷ ases) shown over under known two other has = (
  λ t. inr (x, y, (ases, refl), has.0 t),
  λ s. elim s [
    | inl own ↦ absurd (other (ap (λ (l : List ℕ). get_or l 0 0) own.1) (ap (λ (l : List ℕ). get_or l 1 0) own.1))
    | inr by ↦
        let first : by.0 ≡ x = ap (λ (l : List ℕ). get_or l 0 0) (sym by.2.1) in
        let second : by.1 ≡ y = ap (λ (l : List ℕ). get_or l 1 0) (sym by.2.1) in
        has.1 (subst (λ b. Contains shown (x, b)) second (subst (λ a. Contains shown (a, by.1)) first by.3))
  ],
)
