use Rattle.std.proofs.Common.{length}
use Rattle.order_trials.specs.Settling.{IsSettling}
use Rattle.forced_edges.proofs.Batching.{IsUnderWay}
use Rattle.forced_edges.proofs.batches.settle_batches.Given as goal

abbrev pub invariant-loop-alloc : goal.invariant-loop-alloc
invariant-loop-alloc l = record {
  settling : IsSettling l.problem l.settling;
  under_way : IsUnderWay l.problem l.nodes l.settling.shown l.waiting;
}

abbrev pub decreases-loop-alloc : goal.decreases-loop-alloc
decreases-loop-alloc l = length l.waiting
