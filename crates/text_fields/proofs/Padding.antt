-- The digits of a number, two, four and eight at a time.
use Rattle.std.proofs.Common.{◌≡◌, ℕ, zero, suc, ◌+◌, ◌-◌, ◌*◌, ◌/◌, ◌%◌, ◌^◌, ◌<◌, ◌≤◌, Bool, true, ◌&&◌, T, eqb, List, [], ◌∷◌, ◌++◌, length, take, set}
use Rattle.std.proofs.Common.{get_or, ap, ◌∙◌, sym, inl, inr, arith, eq-zero-or-pos, eqb→eq, append_assoc, length-append, length-set}
use Rattle.std.proofs.lemmas.Fmt.{decimal_digit, decimal_step, length-decimal-le}
use Rattle.std.proofs.lemmas.List.{take_more_set}
use Rattle.std.specs.Fmt.{decimal}
use lib.Ieee.Fits.{and_l, and_r}
use Rattle.text_fields.specs.declared.numbers.TheConstants.{PAIRS}
use Rattle.text_fields.specs.Padded.{two_digits, four_digits, eight_digits}

-- ---- the table

abbrev are_pairs : ℕ → Bool
are_pairs zero = true
are_pairs (suc n) = (eqb (get_or PAIRS (n * 2) 0) (48 + n / 10) && eqb (get_or PAIRS (n * 2 + 1) 0) (48 + n % 10)) && are_pairs n

pairs_below : (most n : ℕ) → T (are_pairs most) → n < most → (get_or PAIRS (n * 2) 0 ≡ 48 + n / 10) × (get_or PAIRS (n * 2 + 1) 0 ≡ 48 + n % 10)
pairs_below zero n t h = absurd (omega arith)
pairs_below (suc most) n t h =
    elim (eq-zero-or-pos (most - n)) [
      | inl z ↦ let e : n ≡ most = omega arith in let a = and_l _ (are_pairs most) t in rw e (eqb→eq _ _ (and_l _ _ a), eqb→eq _ _ (and_r _ _ a))
      | inr g ↦ pairs_below most n (and_r _ (are_pairs most) t) (omega arith)
    ]

pub pair_at : (n : ℕ) → n < 100 → (get_or PAIRS (n * 2) 0 ≡ 48 + n / 10) × (get_or PAIRS (n * 2 + 1) 0 ≡ 48 + n % 10)
pair_at n small = pairs_below 100 n tt small

-- ---- what is written behind what

pub two_put : (bytes : List ℕ) (at a b : ℕ) → at + 2 ≤ length bytes → take (at + 2) (set (set bytes at a) (at + 1) b) ≡ take at bytes ++ a ∷ b ∷ []
two_put bytes at a b room =
    let next : at + 1 + 1 ≡ at + 2 = omega arith in
    ap (λ (k : ℕ). take k (set (set bytes at a) (at + 1) b)) (sym next) ∙ take_more_set (set bytes at a) (at + 1) b (omega (arith, length-set bytes at a))
    ∙ ap (λ (xs : List ℕ). xs ++ b ∷ []) (take_more_set bytes at a (omega arith)) ∙ append_assoc (take at bytes) (a ∷ []) (b ∷ [])

-- digits that stand behind others
pub behind : (before first second all written : List ℕ) → written ≡ (before ++ first) ++ second → all ≡ first ++ second → written ≡ before ++ all
behind before first second all written is whole = is ∙ append_assoc before first second ∙ ap (λ (xs : List ℕ). before ++ xs) (sym whole)

-- ---- digits of a number

pub decimal_two : (n : ℕ) → 10 ≤ n → n < 100 → decimal n ≡ two_digits n
decimal_two n low high = rw (decimal_step n low (omega arith), decimal_digit (n / 10) (omega arith))

pub decimal_by_two : (n : ℕ) → 100 ≤ n → n < 2 ^ 64 → decimal n ≡ decimal (n / 100) ++ two_digits (n % 100)
decimal_by_two n low high =
    let a : n / 10 / 10 ≡ n / 100 = omega arith in
    let b : n / 10 % 10 ≡ n % 100 / 10 = omega arith in
    let c : n % 10 ≡ n % 100 % 10 = omega arith in
    rw (decimal_step n (omega arith) high, decimal_step (n / 10) (omega arith) (omega arith), append_assoc, a, b, ← c)

pub decimal_by_four : (n : ℕ) → 10000 ≤ n → n < 2 ^ 64 → decimal n ≡ decimal (n / 10000) ++ four_digits (n % 10000)
decimal_by_four n low high =
    let a : n / 100 / 100 ≡ n / 10000 = omega arith in
    let b : n / 100 % 100 ≡ n % 10000 / 100 = omega arith in
    let c : n % 10000 % 100 ≡ n % 100 = omega arith in
    rw (decimal_by_two n (omega arith) high, decimal_by_two (n / 100) (omega arith) (omega arith), append_assoc, a, b, c)

pub decimal_by_eight : (n : ℕ) → 100000000 ≤ n → n < 2 ^ 64 → decimal n ≡ decimal (n / 100000000) ++ eight_digits (n % 100000000)
decimal_by_eight n low high =
    let a : n / 10000 / 10000 ≡ n / 100000000 = omega arith in
    let b : n / 10000 % 10000 ≡ n % 100000000 / 10000 = omega arith in
    let c : n % 100000000 % 10000 ≡ n % 10000 = omega arith in
    rw (decimal_by_four n (omega arith) high, decimal_by_four (n / 10000) (omega arith) (omega arith), append_assoc, a, b, c)

-- ---- how many there are

pub length_one : (n : ℕ) → n < 10 → length (decimal n) ≡ 1
length_one n small = ap length (decimal_digit n small)

pub length_two : (n : ℕ) → 10 ≤ n → n < 100 → length (decimal n) ≡ 2
length_two n low high = ap length (decimal_two n low high)

pub length_by_two : (n : ℕ) → 100 ≤ n → n < 2 ^ 64 → length (decimal n) ≡ length (decimal (n / 100)) + 2
length_by_two n low high = ap length (decimal_by_two n low high) ∙ length-append _ _

pub length_by_four : (n : ℕ) → 10000 ≤ n → n < 2 ^ 64 → length (decimal n) ≡ length (decimal (n / 10000)) + 4
length_by_four n low high = ap length (decimal_by_four n low high) ∙ length-append _ _

pub length_by_eight : (n : ℕ) → 100000000 ≤ n → n < 2 ^ 64 → length (decimal n) ≡ length (decimal (n / 100000000)) + 8
length_by_eight n low high = ap length (decimal_by_eight n low high) ∙ length-append _ _

pub at_most_two : (n : ℕ) → n < 100 → length (decimal n) ≤ 2
at_most_two n small = length-decimal-le 2 n (omega arith) (omega arith) (omega arith)

pub at_most_four : (n : ℕ) → n < 10000 → length (decimal n) ≤ 4
at_most_four n small = length-decimal-le 4 n (omega arith) (omega arith) (omega arith)

pub at_most_twelve : (n : ℕ) → n < 1000000000000 → length (decimal n) ≤ 12
at_most_twelve n small = length-decimal-le 12 n (omega arith) (omega arith) (omega arith)

pub at_most_twenty : (n : ℕ) → n < 2 ^ 64 → length (decimal n) ≤ 20
at_most_twenty n fits = length-decimal-le 20 n (omega arith) (omega arith) fits
