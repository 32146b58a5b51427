-- Orders, as a set of pairs finds them.
use Rattle.std.proofs.Common.{◌≡◌, ◌↔◌, ℕ, zero, suc, ◌<◌, Bool, true, ◌&&◌, List, [], ◌∷◌, ◌++◌, get_or, length, refl, sym, ap, arith, inl, inr, IsTrue, Contains, eq-eqb, eqb-true, nat_eq}
use Rattle.std.specs.List.{list_any}
use Rattle.std.proofs.lemmas.Bool.{cases_Bool, and_parts}
use Rattle.indexmap.specs.IndexSet.{insert_key}
use Rattle.indexmap.proofs.CallerLemmas.{Contains-list_any}

abbrev pub is_pair : ℕ × ℕ → ℕ × ℕ → Bool
is_pair p q = nat_eq p.0 q.0 && nat_eq p.1 q.1

same_pair : (p q : ℕ × ℕ) → is_pair p q ≡ true → p ≡ q
same_pair p q h =
    let t = and_parts (nat_eq p.0 q.0) (nat_eq p.1 q.1) h in
    pair (eqb-true p.0 q.0 t.0) (eqb-true p.1 q.1 t.1)
  where
    pair : {a b c d : ℕ} → a ≡ c → b ≡ d → ◌≡◌ {A = ℕ × ℕ} (a, b) (c, d)
    pair e f = cc

found : (p : ℕ × ℕ) (pairs : List (ℕ × ℕ)) (k : ℕ) → k < length pairs → get_or pairs k p ≡ p → list_any (is_pair p) pairs ≡ true
found p [] k lt e = absurd (omega arith)
found p (q ∷ pairs) zero lt e = rw (eq-eqb p.0 q.0 (ap (λ (v : ℕ × ℕ). v.0) (sym e)), eq-eqb p.1 q.1 (ap (λ (v : ℕ × ℕ). v.1) (sym e))) refl
found p (q ∷ pairs) (suc k) lt e =
    elim (cases_Bool (is_pair p q)) [ inl t ↦ rw t refl | inr n ↦ rw n (found p pairs k (omega arith) e) ]

pub has_exact : (pairs : List (ℕ × ℕ)) (p : ℕ × ℕ) → IsTrue (list_any (is_pair p) pairs) ↔ Contains pairs p
has_exact pairs p = (λ t. Contains-list_any is_pair same_pair pairs p t, λ c. found p pairs c.0 c.1 c.2)

pub insert_new : (pairs : List (ℕ × ℕ)) (p : ℕ × ℕ) → (Contains pairs p → ⊥) → insert_key is_pair pairs p ≡ pairs ++ p ∷ []
insert_new pairs p new =
    elim (cases_Bool (list_any (is_pair p) pairs)) [ inl t ↦ absurd (new ((has_exact pairs p).0 t)) | inr n ↦ rw n refl ]
