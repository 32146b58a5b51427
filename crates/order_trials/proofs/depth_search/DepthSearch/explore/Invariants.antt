use Rattle.std.proofs.Common.{ℕ, Contains}
use Rattle.order_trials.specs.Candidates.{IsInDepth, work}
use Rattle.order_trials.proofs.depth_search.DepthSearch.explore.Given as goal

abbrev pub invariant-loop-entered : goal.invariant-loop-entered
invariant-loop-entered l = record {
  order : IsInDepth l.problem l.self;
  come : Contains l.self.seen.items l.fn.start;
  kept : (n : ℕ) → Contains l.fn.self.seen.items n → Contains l.self.seen.items n;
}

abbrev pub decreases-loop-entered : goal.decreases-loop-entered
decreases-loop-entered l = work l.self
