-- What becomes of a result that is printed and read, and of octets that are read and printed: `print` gives a text of the result
-- (`IsTextOf`), `parse` a result whose text the octets are.
use Rattle.std.specs.Prelude.{◌≡◌, ℕ, List}
use Rattle.result_text.specs.declared.file.ResultFile.{ResultFile}
use Rattle.result_text.specs.Grammar.{IsTextOf, IsText, IsBadLine}

-- a text is that of one result
abbrev pub ReadLaw : Type 0
ReadLaw = (file again : ResultFile) (bytes : List ℕ) → IsTextOf file bytes → IsTextOf again bytes → again ≡ file

-- a result has one text
abbrev pub PrintedLaw : Type 0
PrintedLaw = (file : ResultFile) (bytes again : List ℕ) → IsTextOf file bytes → IsTextOf file again → again ≡ bytes

-- no text has a bad line
abbrev pub NoBadLineLaw : Type 0
NoBadLineLaw = (bytes : List ℕ) (n : ℕ) → IsText bytes → IsBadLine n bytes → ⊥
