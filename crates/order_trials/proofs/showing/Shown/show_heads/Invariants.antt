use Rattle.std.proofs.Common.{◌≡◌, ℕ, ◌<◌, Some, Contains}
use Rattle.std.specs.Prelude.{slice_get}
use Rattle.tor_digraph.specs.Spreading.{Stays}
use Rattle.order_trials.specs.Showing.{IsShowing}
use Rattle.order_trials.proofs.showing.Shown.show_heads.Given as goal

abbrev pub invariant-loop-entry : goal.invariant-loop-entry
invariant-loop-entry l = record {
  showing : IsShowing l.problem l.self;
  kept : Stays l.fn.self.nodes.items l.self.nodes.items;
  heads : (j : ℕ) (e : ℕ × ℕ) → j < l.entry-index → slice_get l.entry-items j ≡ Some e → Contains l.self.nodes.items e.1;
}
