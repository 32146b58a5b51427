-- The lines that a loop has passed, and the next.
use Rattle.std.proofs.Common.{◌≡◌, ℕ, ◌+◌, ◌<◌, inl, inr, subst, arith}
use Rattle.std.proofs.lemmas.Bool.{cases_lt}
use Rattle.result_text.specs.declared.file.ResultFile.{ResultFile}
use Rattle.result_rules.specs.declared.rule.Rule.{Rule}
use Rattle.result_rules.specs.Rules.{Asks}

pub asks_more : (file : ResultFile) (rule : Rule) (i : ℕ) → ((k : ℕ) → k < i → Asks file rule k) → Asks file rule i → (k : ℕ) → k < i + 1 → Asks file rule k
asks_more file rule i before next k lt =
    elim (cases_lt k i) [
      | inl old ↦ before k old
      | inr ge ↦ let e : i ≡ k = omega arith in subst (Asks file rule) e next
    ]
