-- What `parse` says of a text, in clap's words.
use Rattle.std.proofs.Common.{◌≡◌, ℕ, ◌<◌, ◌≤◌, ◌^◌, Bool, true, false, List, refl, ap}
use Rattle.std.specs.Prelude.{Some, None, if◌then◌else◌}
use Rattle.std.specs.Str.Parse.{IsNumeral, digits_value, without_leading_plus}
use Rattle.clap.specs.ValueTests.{is_unsigned_in}
use Rattle.clap.specs.declared.builder.value_parser.ValueParser.TheVariants as vp
use Rattle.clap.proofs.ValueTestLemmas.{accepts-Accepts, Accepts-accepts}
use Rattle.tor_words.specs.Given.{number_in}

abbrev pub IsRead : List ℕ → Type 0
IsRead text = IsNumeral 10 (without_leading_plus text) × (digits_value 10 (without_leading_plus text) < 2 ^ 64)

pub number_in-none : (low high : ℕ) (text : List ℕ) → (IsRead text → ⊥) → None ≡ number_in low high text
number_in-none low high text unread =
    go (is_unsigned_in low high text) (λ e. let a = accepts-Accepts false (vp.Unsigned low high) text e in unread (a.0, a.1))
  where
    go : (b : Bool) → (b ≡ true → ⊥) → None ≡ (if b then Some (digits_value 10 (without_leading_plus text)) else None)
    go true h = absurd (h refl)
    go false h = refl

pub number_in-some : (low high n : ℕ) (text : List ℕ) → IsRead text → n ≡ digits_value 10 (without_leading_plus text) → low ≤ n → n ≤ high
    → Some n ≡ number_in low high text
number_in-some low high n text read is above below =
    go (is_unsigned_in low high text) (Accepts-accepts false (vp.Unsigned low high) text (read.0, read.1, rw (← is) above, rw (← is) below))
  where
    go : (b : Bool) → b ≡ true → Some n ≡ (if b then Some (digits_value 10 (without_leading_plus text)) else None)
    go true e = ap Some is
    go false e = cc
