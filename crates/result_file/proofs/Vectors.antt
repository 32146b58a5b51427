-- Texts of worked verdicts and notes, by computation.
use Rattle.std.proofs.Common.{◌≡◌, codes, refl}
use Rattle.std.specs.Fmt.{digits}
use Rattle.result_rules.specs.declared.verdict.Verdict.TheVariants.{Yes, No}
use Rattle.result_file.specs.VerdictText.{verdict_text}

verdict_text-yes : verdict_text Yes ≡ codes "yes\n"
verdict_text-yes = refl

verdict_text-no : verdict_text (No 13 4) ≡ codes "no|13|4\n"
unfolding digits
verdict_text-no = refl
