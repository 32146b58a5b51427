-- A file is valid where the verdict on it is yes.
use Rattle.std.proofs.Common.{◌≡◌, ℕ, Option, Some, Result, Ok, Err, ap, subst}
use Rattle.std.specs.Prelude.{IfOk}
use Rattle.tor_arena.specs.declared.memory.NoMemory.{NoMemory}
use Rattle.result_text.specs.declared.file.ResultFile.{ResultFile}
use Rattle.result_rules.specs.declared.verdict.Verdict.{Verdict}
use Rattle.result_rules.specs.declared.verdict.Verdict.TheVariants.{Yes}
use Rattle.result_rules.specs.Judging.{Judges}
use Rattle.result_rules.specs.Valid.{Valid}
use Rattle.result_rules.proofs.Acceptance.{acceptance_law}
use Rattle.rel_checker.specs.Steps.{IsDecidedUpTo}

abbrev judged_as : Verdict → Result Verdict NoMemory
judged_as verdict = Ok verdict

same_verdict : (verdict : Verdict) → judged_as verdict ≡ judged_as Yes → verdict ≡ Yes
same_verdict verdict e = ap (λ (r : Result Verdict NoMemory). elim r as (λ _. Verdict) [ Ok a ↦ a | Err f ↦ verdict ]) e

pub valid_if_ok : (file : ResultFile) (r : Result Verdict NoMemory) → IfOk r (Judges file) → r ≡ judged_as Yes → Valid file
valid_if_ok file r judged e = acceptance_law file (subst (λ s. IfOk s (Judges file)) e judged)

valid_if_yes : (file : ResultFile) (verdict : Verdict) → Judges file verdict → judged_as verdict ≡ judged_as Yes → Valid file
valid_if_yes file verdict judged e = acceptance_law file (subst (Judges file) (same_verdict verdict e) judged)

pub valid_if_settled : (file : ResultFile) (n : ℕ) (found : Option Verdict) (verdict : Verdict) → IsDecidedUpTo file n found → found ≡ Some verdict → judged_as verdict ≡ judged_as Yes → Valid file
valid_if_settled file n found verdict settles is e = valid_if_yes file verdict (subst (IsDecidedUpTo file n) is settles) e
