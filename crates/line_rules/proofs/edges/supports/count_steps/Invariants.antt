use Rattle.std.proofs.Common.{◌≡◌, ℕ, ◌+◌, length, get_or, take, nat_eq}
use Rattle.std.specs.List.{count_by}
use Rattle.line_rules.specs.declared.edges.step.Step.{Step}
use Rattle.line_rules.specs.PathSteps.{place_in}
use Rattle.line_rules.proofs.edges.supports.count_steps.Given as goal

abbrev pub invariant-loop-step : goal.invariant-loop-step
invariant-loop-step l = record {
  long : length l.counts.items ≡ length l.fn.counts.items;
  counted : (k : ℕ) → get_or l.counts.items k 0 ≡ get_or l.fn.counts.items k 0 + count_by (λ (s : Step). nat_eq (place_in s) k) (take l.step-index l.steps);
}
