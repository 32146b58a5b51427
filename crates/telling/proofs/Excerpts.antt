-- Parts of paths.
use Rattle.std.proofs.Common.{◌≡◌, ℕ, ◌+◌, ◌-◌, ◌<◌, ◌≤◌, Bool, true, false, inl, inr, List, length, take, drop, min, refl, sym, ap, subst, arith}
use Rattle.std.specs.Prelude.{if◌then◌else◌}
use Rattle.std.proofs.Math.Nat.{min-le_left}
use Rattle.std.proofs.lemmas.Bool.{cases_Bool, leb-true}
use Rattle.std.proofs.lemmas.List.{length-take}
use Rattle.telling.specs.PathText.{ShortLinesLaw, ases_shown, is_short_path, near_place}

near_is_short : (path : List ℕ) (at : ℕ) → length (near_place path at) ≤ 64
near_is_short path at =
    let count = length-take (at + 8 - (at - 9)) (drop (at - 9) path) in
    let few = min-le_left (at + 8 - (at - 9)) (length (drop (at - 9) path)) in
    omega (arith, count, few)

pub short_lines : ShortLinesLaw
short_lines path at = elim (cases_Bool (is_short_path path)) [
  | inl t ↦ subst (λ (b : Bool). length (if b then path else near_place path at) ≤ 64) (sym t) (leb-true (length path) 64 t)
  | inr f ↦ subst (λ (b : Bool). length (if b then path else near_place path at) ≤ 64) (sym f) (near_is_short path at)
]
