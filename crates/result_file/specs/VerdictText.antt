-- The text of a verdict.
use Rattle.std.specs.Prelude.{◌++◌, ◌∷◌, [], ℕ, List, codes, decimal}
use Rattle.result_rules.specs.declared.verdict.Verdict.{Verdict}
use Rattle.result_rules.specs.declared.verdict.Verdict.TheVariants as verdict

-- the line and the rule
abbrev pub no_text : ℕ → ℕ → List ℕ
no_text line rule = codes "no|" ++ decimal line ++ codes "|" ++ decimal rule ++ 10 ∷ []

abbrev pub verdict_text : Verdict → List ℕ
verdict_text verdict.Yes = codes "yes" ++ 10 ∷ []
verdict_text (verdict.No line rule) = no_text line rule
