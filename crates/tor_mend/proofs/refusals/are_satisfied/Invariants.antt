use Rattle.std.proofs.Common.{◌≡◌, ◌<◌, ◌+◌, ◌↔◌, ℕ, true, false, Some}
use Rattle.std.specs.Prelude.{slice_get}
use Rattle.as_graph.specs.EdgeSteps.{EdgeStep}
use Rattle.tor_clauses.specs.Literals.{lit_of, Holds}
use Rattle.tor_mend.specs.Refusals.{node_at}
use Rattle.tor_mend.proofs.refusals.are_satisfied.Given as goal

abbrev pub invariant-loop-step : goal.invariant-loop-step
invariant-loop-step l = record {
  none : l.step-index ≡ 0 → l.before ≡ false;
  before : (k : ℕ) (s : EdgeStep) → k + 1 ≡ l.step-index → slice_get l.steps k ≡ Some s → (l.before ≡ true) ↔ Holds l.ends (lit_of (node_at s));
  satisfied : (l.satisfied ≡ true) ↔ ((k : ℕ) (s t : EdgeStep) → k + 1 < l.step-index → slice_get l.steps k ≡ Some s → slice_get l.steps (k + 1) ≡ Some t →
      Holds l.ends (lit_of (node_at s)) → Holds l.ends (lit_of (node_at t)));
}
