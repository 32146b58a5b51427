-- Two ASes one behind the other, as code finds them.
use Rattle.std.proofs.Common.{◌≡◌, ◌↔◌, ℕ, zero, suc, ◌+◌, ◌<◌, ◌≤◌, Bool, IsTrue, List, [], ◌∷◌, ◌++◌, get_or, length, length-append, refl, sym, ap, subst, ◌∙◌, arith}
use Rattle.relationships.specs.Evidence.{HasPair, EndsWith}
use Rattle.rel_checker.specs.ComingBack.{ComesBack}

pub HasPair-from_index : (ases : List ℕ) (x y k : ℕ) → k + 1 < length ases → get_or ases k 0 ≡ x → get_or ases (k + 1) 0 ≡ y → HasPair ases x y
HasPair-from_index [] x y k lt h₁ h₂ = absurd (omega arith)
HasPair-from_index (a ∷ []) x y k lt h₁ h₂ = absurd (omega arith)
HasPair-from_index (a ∷ b ∷ ases) x y zero lt h₁ h₂ = ([], ases, two h₁ h₂)
  where
    two : a ≡ x → b ≡ y → a ∷ b ∷ ases ≡ x ∷ y ∷ ases
    two e f = cc
HasPair-from_index (a ∷ b ∷ ases) x y (suc k) lt h₁ h₂ =
    let e : suc k + 1 ≡ suc (k + 1) = omega arith in
    let r = HasPair-from_index (b ∷ ases) x y k (omega arith) h₁ (rw e at h₂) in
    (a ∷ r.0, r.1, ap (λ (l : List ℕ). a ∷ l) r.2)

seam : (before after : List ℕ) (x y : ℕ) →
    (get_or (before ++ (x ∷ y ∷ after)) (length before) 0 ≡ x) × (get_or (before ++ (x ∷ y ∷ after)) (length before + 1) 0 ≡ y)
seam [] after x y = (refl, refl)
seam (b ∷ before) after x y =
    let e : suc (length before) + 1 ≡ suc (length before + 1) = omega arith in
    let r = seam before after x y in
    (r.0, rw e r.1)

pub index-from_HasPair : (ases : List ℕ) (x y : ℕ) → HasPair ases x y →
    (k : ℕ) × (k + 1 < length ases) × (get_or ases k 0 ≡ x) × (get_or ases (k + 1) 0 ≡ y)
index-from_HasPair ases x y (before, after, e) =
    let n : length ases ≡ length (before ++ (x ∷ y ∷ after)) = ap length e in
    let s = seam before after x y in (
      length before,
      omega (arith, length-append before (x ∷ y ∷ after)),
      ap (λ l. get_or l (length before) 0) e ∙ s.0,
      ap (λ l. get_or l (length before + 1) 0) e ∙ s.1,
    )

-- no pair ends before `at`
abbrev pub NoneBefore : List ℕ → ℕ → ℕ → ℕ → Type 0
NoneBefore ases x y at = (k : ℕ) → k + 1 < at → get_or ases k 0 ≡ x → get_or ases (k + 1) 0 ≡ y → ⊥

-- where the first two differ and stand the other way round somewhere, the last two decide
pub last_decide : (ases : List ℕ) (ends : Bool) → 2 ≤ length ases → (get_or ases 0 0 ≡ get_or ases 1 0 → ⊥) → HasPair ases (get_or ases 1 0) (get_or ases 0 0)
    → IsTrue ends ↔ EndsWith ases (get_or ases 0 0) (get_or ases 1 0) → IsTrue ends ↔ ComesBack ases
last_decide [] ends two differ pair closes = absurd (omega (arith, two))
last_decide (x ∷ []) ends two differ pair closes = absurd (omega (arith, two))
last_decide (x ∷ y ∷ ases) ends two differ pair closes = (
  λ t. record {
    x = x;
    y = y;
    two = differ;
    begins = (ases, refl);
    flips = pair;
    ends = closes.0 t;
  },
  λ back.
      let first : back.x ≡ x = ap (λ (l : List ℕ). get_or l 0 0) (sym back.begins.1) in
      let second : back.y ≡ y = ap (λ (l : List ℕ). get_or l 1 0) (sym back.begins.1) in
      closes.1 (subst (λ b. EndsWith (x ∷ y ∷ ases) x b) second (subst (λ a. EndsWith (x ∷ y ∷ ases) a back.y) first back.ends)),
)
