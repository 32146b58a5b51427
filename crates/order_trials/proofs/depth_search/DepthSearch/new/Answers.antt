use Rattle.std.proofs.Common.{◌∙◌}
use Rattle.order_trials.proofs.Choosing.{order_begins}
use Rattle.order_trials.proofs.depth_search.DepthSearch.new.Goals as goal

pub returns-clause-order : goal.returns-clause-order
returns-clause-order c =
    order_begins c.args.problem.now (record { seen = c.in_ok-seen.seen; stack = c.new-2.result; chosen = c.new-3.result })
    (c.in_ok-seen.ensures.count ∙ c.node_count.ensures.count) c.in_ok-seen.ensures.none c.new-2.ensures c.new-3.ensures
