use Rattle.std.proofs.Common.{◌≡◌, ◌*◌, ℕ, length, IsTrue, Contains}
use Rattle.order_trials.specs.Held.{held}
use Rattle.order_trials.proofs.held.held_nodes.Given as goal

abbrev pub invariant-loop-place : goal.invariant-loop-place
invariant-loop-place l = record {
  count : l.nodes.count ≡ length l.labels * 2;
  held : (n : ℕ) → Contains l.nodes.items n → IsTrue (held l.labels n);
}
