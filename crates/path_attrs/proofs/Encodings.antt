-- Numbers as octets.
use Rattle.std.proofs.Common.{◌≡◌, ℕ, ◌≤◌, List, [], ◌∷◌, ◌++◌, length, take, drop, sym, ap, ◌∙◌, arith}
use Rattle.std.proofs.lemmas.List.{take-append-drop, length-take-le}
use Rattle.byteorder.specs.Endian.{big_number}
use Rattle.byteorder.specs.Numbers.{big_from-append}

-- octets behind a number do not matter
pub big_number-append : (n : ℕ) (xs ys : List ℕ) → n ≤ length xs → big_number n (xs ++ ys) ≡ big_number n xs
big_number-append n xs ys h = big_from-append n xs ys h

pub big_number-take : (n : ℕ) (bytes : List ℕ) → n ≤ length bytes → big_number n (take n bytes) ≡ big_number n bytes
big_number-take n bytes h = sym (big_number-append n (take n bytes) (drop n bytes) (let e = length-take-le n bytes h in omega arith)) ∙ ap (big_number n) (take-append-drop n bytes)

-- one octet
pub big_number-one : (x : ℕ) (bytes : List ℕ) → big_number 1 (x ∷ bytes) ≡ x
big_number-one x bytes = omega arith

pub one_octet : (bytes : List ℕ) → 1 ≤ length bytes → bytes ≡ big_number 1 bytes ∷ drop 1 bytes
one_octet [] h = absurd (omega arith)
one_octet (x ∷ xs) h = ap (λ n. n ∷ xs) (sym (big_number-one x xs))
