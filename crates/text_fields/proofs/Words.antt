-- A word at the prefix of the bytes.
use Rattle.std.proofs.Common.{◌≡◌, ℕ, ◌+◌, true, false, cond, eqb, List, [], ◌∷◌, length, take, drop, Option, Some, None, refl, Bor, MatchOption}
use Rattle.std.specs.Prelude.{◌&&◌}
use Rattle.std.specs.Option.{option_copied}
use Rattle.std.specs.Cmp.Lexicographic.{pointwise}
use Rattle.text_fields.specs.Reading.{word_at}

word_at_is : (word bytes : List ℕ) → word_at word bytes ≡ cond (pointwise eqb (take (length word) bytes) word) (Some (drop (length word) bytes)) None
word_at_is [] bytes = refl
word_at_is (c ∷ cs) [] = refl
word_at_is (c ∷ cs) (b ∷ bytes) = elim (eqb b c) as (λ t. cond t (word_at cs bytes) None ≡ cond (t && pointwise eqb (take (length cs) bytes) cs)
    (Some (drop (length cs) bytes)) None) [ true ↦ word_at_is cs bytes | false ↦ refl ]

pub prefix_is : (word bytes : List ℕ) (r : Option (Bor (List ℕ)))
    → MatchOption r (pointwise eqb (take (length word) bytes) word ≡ false) (λ x. (pointwise eqb (take (length word) bytes) word ≡ true)
    × (x.now ≡ drop (length word) bytes) × (length x.now + length word ≡ length bytes))
    → option_copied r ≡ word_at word bytes
prefix_is word bytes None h = rw (word_at_is word bytes, h) refl
prefix_is word bytes (Some x) h = rw (word_at_is word bytes, h.0, h.1) refl
