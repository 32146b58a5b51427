use Rattle.order_trials.proofs.Reaching.{closure_of, reach_of}
use Rattle.forced_edges.proofs.laws.closure_reach_law.Goals as goal

pub returns : goal.returns
returns c = λ graph f l m a b x y apart fits says said. (
  λ r. closure_of graph f apart fits l a b says r x y said,
  λ closure. reach_of graph f apart fits l a b says closure m said,
)
