-- Digits read one after the other, as the loop does.
use Rattle.std.proofs.Common.{◌≡◌, ℕ, ◌-◌, ◌<◌, Bool, true, false, cond, List, [], ◌∷◌, length, Some, None, refl, ap, arith}
use Rattle.text_fields.specs.Reading.{is_digit, with_digit, digit_at, digits_at}
use Rattle.text_fields.proofs.Readers.{if_some, some_is}

pub digits_go_on : (bytes : List ℕ) (n d m : ℕ) (rest : List ℕ) → digit_at bytes ≡ Some (d, rest) → with_digit n d ≡ Some m → digits_at m rest ≡ digits_at n bytes
unfolding digit_at digits_at
digits_go_on [] n d m rest e f = absurd cc
digits_go_on (b ∷ bytes) n d m rest e f =
    let g = if_some (is_digit b) (Some (b - 48, bytes)) (d, rest) e in
    let d-is : b - 48 ≡ d = ap (λ (p : ℕ × List ℕ). p.0) (some_is (b - 48, bytes) (d, rest) g.1) in
    let rest-is : bytes ≡ rest = ap (λ (p : ℕ × List ℕ). p.1) (some_is (b - 48, bytes) (d, rest) g.1) in
    rw (g.0, d-is, f, rest-is) refl

pub digits_stop : (bytes : List ℕ) (n d : ℕ) (rest : List ℕ) → digit_at bytes ≡ Some (d, rest) → with_digit n d ≡ None → digits_at n bytes ≡ None
unfolding digit_at digits_at
digits_stop [] n d rest e f = absurd cc
digits_stop (b ∷ bytes) n d rest e f =
    let g = if_some (is_digit b) (Some (b - 48, bytes)) (d, rest) e in
    let d-is : b - 48 ≡ d = ap (λ (p : ℕ × List ℕ). p.0) (some_is (b - 48, bytes) (d, rest) g.1) in
    rw (g.0, d-is, f) refl

if_none : {A : Type 0} (b : Bool) (x : A) → cond b (Some x) None ≡ None → b ≡ false
if_none true x e = absurd cc
if_none false x e = refl

pub digits_end_at : (bytes : List ℕ) (n : ℕ) → digit_at bytes ≡ None → digits_at n bytes ≡ Some (n, bytes)
unfolding digit_at digits_at
digits_end_at [] n e = refl
digits_end_at (b ∷ bytes) n e = rw (if_none (is_digit b) (b - 48, bytes) e) refl

pub digit_shorter : (bytes : List ℕ) (d : ℕ) (rest : List ℕ) → digit_at bytes ≡ Some (d, rest) → length rest < length bytes
unfolding digit_at
digit_shorter [] d rest e = absurd cc
digit_shorter (b ∷ bytes) d rest e =
    let g = if_some (is_digit b) (Some (b - 48, bytes)) (d, rest) e in
    let rest-is : length bytes ≡ length rest = ap (λ (p : ℕ × List ℕ). length p.1) (some_is (b - 48, bytes) (d, rest) g.1) in
    omega arith
