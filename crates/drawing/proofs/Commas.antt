-- Numbers with commas, one group of three digits more.
use Rattle.std.proofs.Common.{◌≡◌, ℕ, zero, suc, ◌-◌, ◌/◌, ◌%◌, ◌<◌, ◌≤◌, ◌∷◌, ◌++◌, refl, arith, lt-ltb, le-ltb}
use Rattle.std.specs.Fmt.{decimal}
use Rattle.drawing.specs.Svg.{comma_digits, three_digits}

pub few_digits : (k n : ℕ) → n < 1000 → comma_digits k n ≡ decimal n
few_digits zero n lt = refl
few_digits (suc k) n lt = rw (lt-ltb n 1000 lt) refl

pub more_digits : (k n : ℕ) → 0 < k → 1000 ≤ n → comma_digits k n ≡ comma_digits (k - 1) (n / 1000) ++ 44 ∷ three_digits (n % 1000)
more_digits zero n some le = absurd (omega (arith, some))
more_digits (suc k) n some le = let same : suc k - 1 ≡ k = omega arith in rw (le-ltb n 1000 le, same) refl
