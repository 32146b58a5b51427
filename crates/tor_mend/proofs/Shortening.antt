-- Refusals of which none has a longer walk than before.
use Rattle.std.proofs.Common.{◌≡◌, ◌≤◌, ℕ, zero, suc, List, [], ◌∷◌, ◌++◌, Some, refl, sym, ap, ◌∙◌, subst, arith}
use Rattle.std.specs.Prelude.{slice_get, slice_set}
use Rattle.tor_arena.proofs.Gets.{slice_get-push_old}
use Rattle.tor_clauses.proofs.Ways.{some_same}
use Rattle.tor_mend.specs.declared.refusals.Refusal.{Refusal}
use Rattle.tor_mend.specs.Refusals.{NoneGrows}

pub none_changes : (rs : List Refusal) → NoneGrows rs rs
none_changes rs place r at = (r, at, omega arith)

pub one_more : (rs : List Refusal) (q : Refusal) → NoneGrows rs (rs ++ q ∷ [])
one_more rs q place r at = (r, slice_get-push_old rs (q ∷ []) place r at, omega arith)

pub one_shorter : (rs : List Refusal) (k : ℕ) (q before : Refusal) → slice_get rs k ≡ Some before → q.links ≤ before.links → NoneGrows rs (slice_set rs k q)
one_shorter [] k q before was less place r at = absurd cc
one_shorter (x ∷ rs) zero q before was less zero r at =
    (q, refl, subst (λ (n : ℕ). q.links ≤ n) (ap (λ (s : Refusal). s.links) (some_same (sym was ∙ at))) less)
one_shorter (x ∷ rs) zero q before was less (suc place) r at = (r, at, omega arith)
one_shorter (x ∷ rs) (suc k) q before was less zero r at = (r, at, omega arith)
one_shorter (x ∷ rs) (suc k) q before was less (suc place) r at = one_shorter rs k q before was less place r at
