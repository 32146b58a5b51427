use Rattle.std.proofs.Common.{ℕ, ◌<◌}
use Rattle.result_rules.specs.declared.rule.Rule.TheVariants.{LostRefuted}
use Rattle.result_rules.specs.Rules.{Asks}
use Rattle.rel_checker.proofs.walk_rules.find_unrefuted.Given as goal

-- the lines before this one meet the rule
abbrev pub invariant-loop-place : goal.invariant-loop-place
invariant-loop-place l = (k : ℕ) → k < l.place → Asks l.file LostRefuted k
