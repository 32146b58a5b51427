use Rattle.order_trials.specs.Candidates.{IsChoosing}
use Rattle.order_trials.proofs.depth_search.DepthSearch.explore_edges.Given as goal

abbrev pub invariant-loop-place : goal.invariant-loop-place
invariant-loop-place l = IsChoosing l.problem l.place l.self
