-- A sink that gained a text or a prefix of it.
use Rattle.std.proofs.Common.{◌≡◌, ℕ, List, length, Option, Some, None, Result, Ok, Err, sym, ap, subst, ◌∙◌, arith}
use Rattle.std.specs.Prelude.{OnOk, OnErr, IfSome}
use Rattle.std.specs.Io.KnownBytes.{append_known}
use Rattle.std.proofs.Math.Seq.{take-length}
use Rattle.tor_io.specs.Counts.{HasCause, IsQuiet}
use Rattle.tor_io.specs.Contents.{GainsPrefix}
use Rattle.run_base.specs.Answers.{IsNoted}

pub either_way : {T E : Type 0} (r : Result T E) (old new : Option (List ℕ)) (text : List ℕ) → OnOk r (new ≡ append_known old text) → OnErr r (GainsPrefix old new text) → GainsPrefix old new text
either_way (Ok x) old new text all part = (length text, omega arith, all ∙ ap (append_known old) (sym (take-length text)))
either_way (Err e) old new text all part = part

-- a sink whose count of faults didn't rise gained the whole text
pub all_if_quiet : {T E : Type 0} (r : Result T E) (before now : ℕ) (old new : Option (List ℕ)) (text : List ℕ) → HasCause before now r → OnOk r (new ≡ append_known old text)
    → IsQuiet before now → new ≡ append_known old text
all_if_quiet (Ok x) before now old new text cause all quiet = all
all_if_quiet (Err e) before now old new text cause all quiet = absurd (omega (arith, cause.failed, quiet))

-- a note such as this was written, or a prefix of it where the write failed
pub noted : {T E : Type 0} (Such : List ℕ → Type 0) (r : Result T E) (before now : ℕ) (old new : Option (List ℕ)) (written text : List ℕ) → Such text → written ≡ text
    → HasCause before now r → OnOk r (new ≡ append_known old written) → OnErr r (GainsPrefix old new written) → IsNoted Such before now old new
noted Such r before now old new written text such same cause all part = record {
  text = text;
  is_note = such;
  whole = λ quiet. all_if_quiet r before now old new written cause all quiet ∙ ap (append_known old) same;
  prefix = subst (GainsPrefix old new) same (either_way r old new written all part);
}
