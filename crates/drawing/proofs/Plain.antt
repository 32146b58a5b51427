-- Texts that stand in XML as they are.
use Rattle.std.proofs.Common.{◌≡◌, ℕ, zero, suc, ◌/◌, ◌%◌, ◌<◌, Bool, true, false, List, [], ◌∷◌, ◌++◌, refl, arith}
use Rattle.std.specs.Prelude.{◌==◌, if◌then◌else◌}
use Rattle.std.specs.Fmt.{decimal, digits, digits_onto, digit_glyph}
use Rattle.std.proofs.Math.Nat.{mod-lt}
use Rattle.std.proofs.lemmas.List.Folds.{list_all-append}
use Rattle.drawing.specs.Xml.{ArePlain, is_plain}

pub plain_append : (xs ys : List ℕ) → ArePlain xs → ArePlain ys → ArePlain (xs ++ ys)
plain_append xs ys a b = rw (list_all-append is_plain xs ys, a, b) refl

plain_digit : (d : ℕ) → d < 10 → is_plain (digit_glyph false d) ≡ true
plain_digit zero lt = refl
plain_digit (suc zero) lt = refl
plain_digit (suc (suc zero)) lt = refl
plain_digit (suc (suc (suc zero))) lt = refl
plain_digit (suc (suc (suc (suc zero)))) lt = refl
plain_digit (suc (suc (suc (suc (suc zero))))) lt = refl
plain_digit (suc (suc (suc (suc (suc (suc zero)))))) lt = refl
plain_digit (suc (suc (suc (suc (suc (suc (suc zero))))))) lt = refl
plain_digit (suc (suc (suc (suc (suc (suc (suc (suc zero)))))))) lt = refl
plain_digit (suc (suc (suc (suc (suc (suc (suc (suc (suc zero))))))))) lt = refl
plain_digit (suc (suc (suc (suc (suc (suc (suc (suc (suc (suc d)))))))))) lt = absurd (omega arith)

pub plain_either : (b : Bool) (xs ys : List ℕ) → ArePlain xs → ArePlain ys → ArePlain (if b then xs else ys)
plain_either true xs ys x y = x
plain_either false xs ys x y = y

pub plain_more : (c : ℕ) (acc : List ℕ) → is_plain c ≡ true → ArePlain acc → ArePlain (c ∷ acc)
plain_more c acc e a = rw (e, a) refl

plain_onto : (k n : ℕ) (acc : List ℕ) → ArePlain acc → ArePlain (digits_onto k 10 false n acc)
plain_onto zero n acc a = a
plain_onto (suc k) n acc a =
    let last : ArePlain (digit_glyph false (n % 10) ∷ acc) = plain_more (digit_glyph false (n % 10)) acc (plain_digit (n % 10) (mod-lt n (omega arith))) a in
    plain_either (n / 10 == 0) (digit_glyph false (n % 10) ∷ acc) (digits_onto k 10 false (n / 10) (digit_glyph false (n % 10) ∷ acc)) last
    (plain_onto k (n / 10) (digit_glyph false (n % 10) ∷ acc) last)

pub plain_decimal : (n : ℕ) → ArePlain (decimal n)
unfolding digits
plain_decimal n = plain_onto 64 n [] refl
