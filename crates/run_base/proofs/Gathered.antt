-- Bytes that are gathered from what a shelf has left.
use Rattle.std.proofs.Common.{◌≡◌, ℕ, ◌+◌, ◌≤◌, ◌<◌, List, ◌++◌, length, drop, Option, Some, None, refl, sym, ap, ap₂, ◌∙◌, append_assoc, arith}
use Rattle.std.specs.Prelude.{IfSome}
use Rattle.std.proofs.Math.Seq.{drop-append_seam}
use Rattle.std.proofs.lemmas.List.{append-nil, length-append}
use Rattle.std.specs.Io.KnownBytes.{prepend_known, IsAtEnd}
use Rattle.std.proofs.lemmas.Option.{same_Some}
use Rattle.run_base.specs.WholeFile.{IsLong, IsRestOf}

-- one part more
pub gathered_more : (before mid now : Option (List ℕ)) (bytes part new : List ℕ) → before ≡ prepend_known bytes mid → mid ≡ prepend_known part now → new ≡ bytes ++ part
    → before ≡ prepend_known new now
gathered_more before mid None bytes part new is more gains = is ∙ ap (prepend_known bytes) more
gathered_more before mid (Some rest) bytes part new is more gains =
    is ∙ ap (prepend_known bytes) more ∙ ap (λ (t : List ℕ). Some t) (sym (append_assoc bytes part rest)) ∙ ap (λ (t : List ℕ). Some (t ++ rest)) (sym gains)

-- all is gathered where nothing is left
pub gathered_all : (before now : Option (List ℕ)) (bytes : List ℕ) → before ≡ prepend_known bytes now → IsAtEnd now → IfSome before (λ left. left ≡ bytes)
gathered_all None now bytes is end = tt
gathered_all (Some left) None bytes is end = absurd cc
gathered_all (Some left) (Some rest) bytes is end = same_Some left (bytes ++ rest) is ∙ ap (λ (t : List ℕ). bytes ++ t) end ∙ append-nil bytes

-- too much is there where too much is gathered
pub gathered_long : (most : ℕ) (before now : Option (List ℕ)) (bytes : List ℕ) → before ≡ prepend_known bytes now → most < length bytes → IfSome before (IsLong most)
gathered_long most None now bytes is more = tt
gathered_long most (Some left) None bytes is more = absurd cc
gathered_long most (Some left) (Some rest) bytes is more = omega (arith, ap length (same_Some left (bytes ++ rest) is), length-append bytes rest, more)

-- what is left is all behind what is gathered
pub gathered_rest : (before now : Option (List ℕ)) (bytes : List ℕ) (n : ℕ) → before ≡ prepend_known bytes now → length bytes ≡ n → IfSome before (λ left. now ≡ Some (drop n left))
gathered_rest None now bytes n is size = tt
gathered_rest (Some left) None bytes n is size = absurd cc
gathered_rest (Some left) (Some rest) bytes n is size =
    ap (λ (t : List ℕ). Some t) (sym (ap₂ drop (sym size) (same_Some left (bytes ++ rest) is) ∙ drop-append_seam bytes rest))

-- so is a rest, where no more is gathered than may be and one
pub gathered_some : (most : ℕ) (before now : Option (List ℕ)) (bytes : List ℕ) → before ≡ prepend_known bytes now → length bytes ≤ most + 1 → IfSome before (IsRestOf most now)
gathered_some most before now bytes is few = by before (gathered_rest before now bytes (length bytes) is refl)
  where
    by : (o : Option (List ℕ)) → IfSome o (λ left. now ≡ Some (drop (length bytes) left)) → IfSome o (IsRestOf most now)
    by None h = tt
    by (Some left) h = (length bytes, few, h)

pub nothing_gathered : (most : ℕ) (before : Option (List ℕ)) → IfSome before (IsRestOf most before)
nothing_gathered most None = tt
nothing_gathered most (Some left) = (0, omega arith, refl)
