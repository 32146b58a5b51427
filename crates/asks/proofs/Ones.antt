-- The bits of a word, as a list of numbers from a base on.
use Rattle.std.proofs.Common.{◌≡◌, ℕ, zero, suc, ◌+◌, ◌/◌, ◌%◌, ◌^◌, ◌<◌, ◌≤◌, ◌⊎◌, inl, inr, List, [], ◌∷◌, Some, length, count_ones, refl, sym, ap, ◌∙◌, subst, arith, mod-lt, zero-lt-suc, pow-suc}
use Rattle.std.specs.Prelude.{slice_get}
use Rattle.std.specs.Int.{bit_at}
use Rattle.std.proofs.lemmas.Nat.{ones_le_self}
use Rattle.std.proofs.lemmas.Nat.Bits.{bit_at_lowest, bit_at-suc}
use Rattle.std.proofs.lemmas.Option.{same_Some}
use lib.Count.{ones_step}
use Rattle.tor_digraph.specs.Closing.{Has, IsOnce}
use Rattle.reach_counts.proofs.Picking.{once-cons}

-- the number in front, if the bit is 1
abbrev pub put_bit : ℕ → ℕ → List ℕ → List ℕ
put_bit zero b rest = rest
put_bit (suc m) b rest = b ∷ rest

-- the places of the first bits that are 1, so many, from the base on
abbrev pub bits_from : ℕ → ℕ → ℕ → List ℕ
bits_from zero b n = []
bits_from (suc d) b n = put_bit (n % 2) b (bits_from d (b + 1) (n / 2))

put_has : (m b : ℕ) (rest : List ℕ) (x : ℕ) → m < 2 → Has (put_bit m b rest) x → ((m ≡ 1) × (x ≡ b)) ⊎ Has rest x
put_has zero b rest x lt h = inr h
put_has (suc zero) b rest x lt (zero, at) = inl (refl, sym (same_Some b x at))
put_has (suc zero) b rest x lt (suc k, at) = inr (k, at)
put_has (suc (suc m)) b rest x lt h = absurd (omega (arith, lt))

put_first : (m b : ℕ) (rest : List ℕ) → m ≡ 1 → Has (put_bit m b rest) b
put_first zero b rest e = absurd (omega (arith, e))
put_first (suc m) b rest e = (0, refl)

put_more : (m b : ℕ) (rest : List ℕ) (x : ℕ) → Has rest x → Has (put_bit m b rest) x
put_more zero b rest x h = h
put_more (suc m) b rest x h = (suc h.0, h.1)

put_length : (m b : ℕ) (rest : List ℕ) → m < 2 → length (put_bit m b rest) ≡ m + length rest
put_length zero b rest lt = omega arith
put_length (suc zero) b rest lt = omega arith
put_length (suc (suc m)) b rest lt = absurd (omega (arith, lt))

put_once : (m b : ℕ) (rest : List ℕ) → (Has rest b → ⊥) → IsOnce rest → IsOnce (put_bit m b rest)
put_once zero b rest none h = h
put_once (suc m) b rest none h = once-cons b rest none h

low_bit : (n : ℕ) → n % 2 < 2
low_bit n = mod-lt n (zero-lt-suc 1)

pub bit_of : (d b n x : ℕ) → Has (bits_from d b n) x → (j : ℕ) × (j < d) × (x ≡ b + j) × (bit_at n j ≡ 1)
bit_of zero b n x h = let at = h.1 in absurd (cc at)
bit_of (suc d) b n x h = elim (put_has (n % 2) b (bits_from d (b + 1) (n / 2)) x (low_bit n) h) [
  | inl p ↦ let is = p.1 in (0, omega arith, omega (arith, is), bit_at_lowest n ∙ p.0)
  | inr r ↦
      let q = bit_of d (b + 1) (n / 2) x r in
      let lt = q.1 in let is = q.2 in
      (suc q.0, omega (arith, lt), omega (arith, is), bit_at-suc n q.0 ∙ q.3)
]

pub has_bit_of : (d b n j : ℕ) → j < d → bit_at n j ≡ 1 → Has (bits_from d b n) (b + j)
has_bit_of zero b n j lt one = absurd (omega (arith, lt))
has_bit_of (suc d) b n zero lt one =
    let e : b ≡ b + 0 = omega arith in
    subst (Has (bits_from (suc d) b n)) e (put_first (n % 2) b (bits_from d (b + 1) (n / 2)) (sym (bit_at_lowest n) ∙ one))
has_bit_of (suc d) b n (suc j) lt one =
    let e : b + 1 + j ≡ b + suc j = omega arith in
    subst (Has (bits_from (suc d) b n)) e
    (put_more (n % 2) b (bits_from d (b + 1) (n / 2)) (b + 1 + j) (has_bit_of d (b + 1) (n / 2) j (omega (arith, lt)) (sym (bit_at-suc n j) ∙ one)))

pub bits_once : (d b n : ℕ) → IsOnce (bits_from d b n)
bits_once zero b n = λ i j x at. absurd (nothing i x at)
  where
    nothing : (i x : ℕ) → slice_get {X = ℕ} [] i ≡ Some x → ⊥
    nothing i x at = cc
bits_once (suc d) b n =
    put_once (n % 2) b (bits_from d (b + 1) (n / 2)) (λ h. let q = bit_of d (b + 1) (n / 2) b h in let is = q.2 in omega (arith, is)) (bits_once d (b + 1) (n / 2))

pub bits_length : (d b n : ℕ) → n < 2 ^ d → length (bits_from d b n) ≡ count_ones n
bits_length zero b n lt = let le = ones_le_self n in omega (arith, lt, le)
bits_length (suc d) b n lt =
    let p = pow-suc 2 d in
    put_length (n % 2) b (bits_from d (b + 1) (n / 2)) (low_bit n) ∙ ap (λ m. n % 2 + m) (bits_length d (b + 1) (n / 2) (omega (arith, lt, p))) ∙ sym (ones_step n)

-- a word of 64 bits has no more than 64
pub few_ones : (n : ℕ) → n < 2 ^ 64 → count_ones n ≤ 64
few_ones n lt = let l = bits_length 64 0 n lt in let le = length_few 64 0 n in omega (arith, l, le)
  where
    length_few : (d b n : ℕ) → length (bits_from d b n) ≤ d
    length_few zero b n = omega arith
    length_few (suc d) b n =
        let l = put_length (n % 2) b (bits_from d (b + 1) (n / 2)) (low_bit n) in
        let m = low_bit n in
        let rest = length_few d (b + 1) (n / 2) in
        omega (arith, l, m, rest)
