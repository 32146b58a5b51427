use Rattle.std.proofs.Common.{◌≡◌, ℕ, ◌<◌, take}
use Rattle.result_rules.specs.File.{shown_orders}
use Rattle.result_rules.specs.declared.rule.Rule.TheVariants.{OrdersShown}
use Rattle.result_rules.specs.Rules.{Asks}
use Rattle.line_rules.proofs.walks.why_rules.first_unshown.Given as goal

-- the lines before this one meet the rule, and the set has the orders that they show
abbrev pub invariant-loop-place : goal.invariant-loop-place
invariant-loop-place l = record {
  met : (k : ℕ) → k < l.place → Asks l.file OrdersShown k;
  orders : l.shown ≡ shown_orders (take l.place l.file.whys);
}
