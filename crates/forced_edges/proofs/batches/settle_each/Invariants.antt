use Rattle.std.proofs.Common.{◌≡◌}
use Rattle.forced_edges.proofs.Batching.{IsBatchSoFar}
use Rattle.forced_edges.proofs.batches.settle_each.Given as goal

abbrev pub invariant-loop-place : goal.invariant-loop-place
invariant-loop-place l = record {
  batch : IsBatchSoFar l.problem l.nodes l.fn.settling.shown l.place l.settling.together l.settling.shown l.waiting;
  trial : l.settling.trial.nodes.count ≡ l.problem.formula.net.nodes;
}
