-- Fields that were read, and the octets that they were read from.
use Rattle.std.proofs.Common.{◌≡◌, ℕ, zero, suc, ◌<◌, ◌≤◌, ◌==◌, arith, Bool, true, false, cond, ltb, List, [], ◌∷◌, ◌++◌, subst, ap₂, ◌∙◌, length, take, drop, Result, Ok, Err, refl}
use Rattle.std.proofs.lemmas.Bool.{ltb-false, le-ltb}
use Rattle.std.proofs.lemmas.List.{length-append}
use Rattle.std.proofs.Math.Dec.{eqb-suc-zero}
use Rattle.std.proofs.Math.Seq.{drop-append_seam, take-append_seam}
use Rattle.byteorder.specs.Endian.{big_number}
use Rattle.path_attrs.specs.Fields.{◌>>=◌, octets, number}
use Rattle.path_attrs.proofs.Encodings.{big_number-append}

-- what a field reads where it is whole
pub octets_at : {E : Type 0} (fault : E) (n : ℕ) (bytes : List ℕ) → n ≤ length bytes → octets fault n bytes ≡ Ok (take n bytes, drop n bytes)
octets_at fault n bytes h = rw (le-ltb (length bytes) n h) refl

pub number_at : {E : Type 0} (fault : E) (n : ℕ) (bytes : List ℕ) → n ≤ length bytes → number fault n bytes ≡ Ok (big_number n bytes, drop n bytes)
number_at fault n bytes h = rw (le-ltb (length bytes) n h) refl

-- a field read from its encoding
pub number_encoded : {E : Type 0} (fault : E) (n : ℕ) (prefix rest : List ℕ) (x : ℕ) → length prefix ≡ n → big_number n prefix ≡ x → number fault n (prefix ++ rest) ≡ Ok (x, rest)
number_encoded fault n prefix rest x len is =
    number_at fault n (prefix ++ rest) (omega (arith, length-append prefix rest))
    ∙ ap₂ (λ m t. Ok (m, t)) (big_number-append n prefix rest (omega arith) ∙ is) (subst (λ k. drop k (prefix ++ rest) ≡ rest) len (drop-append_seam prefix rest))

pub octets_encoded : {E : Type 0} (fault : E) (prefix rest : List ℕ) → octets fault (length prefix) (prefix ++ rest) ≡ Ok (prefix, rest)
octets_encoded fault prefix rest =
    octets_at fault (length prefix) (prefix ++ rest) (omega (arith, length-append prefix rest)) ∙ ap₂ (λ x t. Ok (x, t)) (take-append_seam prefix rest) (drop-append_seam prefix rest)

pub apart : {A E : Type 0} (e : E) (y : A) → ◌≡◌ {A = Result A E} (Err e) (Ok y) → ⊥
apart e y h = cc

pub ok_same : {A E : Type 0} (x y : A) → ◌≡◌ {A = Result A E} (Ok x) (Ok y) → x ≡ y
ok_same x y h = cc

-- where reading went on, the field was whole
pub octets_then : {B E : Type 0} (fault : E) (n : ℕ) (bytes : List ℕ) (f : List ℕ × List ℕ → Result B E) (y : B) → (octets fault n bytes >>= f) ≡ Ok y
    → (n ≤ length bytes) × (f (take n bytes, drop n bytes) ≡ Ok y)
octets_then {B = B} {E = E} fault n bytes f y is = by_test (ltb (length bytes) n) refl is
  where
    by_test : (b : Bool) → ltb (length bytes) n ≡ b → (cond b (Err fault) (Ok (take n bytes, drop n bytes)) >>= f) ≡ Ok y → (n ≤ length bytes) × (f (take n bytes, drop n bytes) ≡ Ok y)
    by_test true t h = absurd (apart fault y h)
    by_test false t h = (ltb-false (length bytes) n t, h)

pub number_then : {B E : Type 0} (fault : E) (n : ℕ) (bytes : List ℕ) (f : ℕ × List ℕ → Result B E) (y : B) → (number fault n bytes >>= f) ≡ Ok y
    → (n ≤ length bytes) × (f (big_number n bytes, drop n bytes) ≡ Ok y)
number_then {B = B} {E = E} fault n bytes f y is = by_test (ltb (length bytes) n) refl is
  where
    by_test : (b : Bool) → ltb (length bytes) n ≡ b → (cond b (Err fault) (Ok (big_number n bytes, drop n bytes)) >>= f) ≡ Ok y → (n ≤ length bytes) × (f (big_number n bytes, drop n bytes) ≡ Ok y)
    by_test true t h = absurd (apart fault y h)
    by_test false t h = (ltb-false (length bytes) n t, h)

-- what `is_empty` answered
pub not_empty : (n : ℕ) (b : Bool) → b ≡ (n == 0) → b ≡ false → 0 < n
not_empty zero b is test = absurd cc
not_empty (suc n) b is test = omega arith

pub no_octet : (bytes : List ℕ) (b : Bool) → b ≡ (length bytes == 0) → b ≡ true → bytes ≡ []
no_octet [] b is test = refl
no_octet (x ∷ xs) b is test = absurd (let e = eqb-suc-zero (length xs) in cc)
