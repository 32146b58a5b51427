-- What is read of a file.
use Rattle.std.specs.Prelude.{◌≡◌, ℕ, ◌≤◌, List, length, Option, Some, IfSome}
use Rattle.tor_io.specs.Contents.{Files}
use Rattle.result_text.specs.Grammar.{IsBadLine}
use Rattle.run_base.specs.declared.whole_file.Unread.TheVariants as reasons
use Rattle.result_file.specs.declared.reading.NoResult.{NoResult}
use Rattle.result_file.specs.declared.reading.NoResult.TheVariants as errors

-- octets, at most so many, that stand there, and of which this is true
pub record IsRead (most : ℕ) (Stand Such : List ℕ → Type 0) : Type 0 where
  pub octets : List ℕ
  pub short : length octets ≤ most
  pub stand : Stand octets
  pub such : Such octets

-- they are all that is left, where it is known
abbrev pub AreLeft : Option (List ℕ) → List ℕ → Type 0
AreLeft left octets = IfSome left (λ unread. unread ≡ octets)

-- the file of this name has them, where the files are known
abbrev pub AreOf : Option Files → List ℕ → List ℕ → Type 0
AreOf known name octets = IfSome known (λ files. files name ≡ Some octets)

-- the octets are no text, and this is their bad line
abbrev pub IsRefusal : NoResult → List ℕ → Type 0
IsRefusal (errors.BadLine line) octets = IsBadLine line octets
IsRefusal (errors.Unread why) octets = why ≡ reasons.NoMemory

-- octets that are no text were read, and this is their bad line
abbrev pub IsNoText : ℕ → Option Files → List ℕ → NoResult → Type 0
IsNoText most known name (errors.BadLine line) = IsRead most (AreOf known name) (IsBadLine line)
IsNoText most known name (errors.Unread why) = Unit {0}

-- the octets are no text
abbrev pub IsBad : NoResult → Type 0
IsBad (errors.BadLine line) = Unit {0}
IsBad (errors.Unread why) = ⊥
