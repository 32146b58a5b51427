use Rattle.tor_clauses.proofs.Leadings.{made_walk}
use Rattle.tor_clauses.proofs.walking.begin_walk.Goals as goal

pub returns : goal.returns
returns c = (
  c.order-over.result.0,
  c.order-over.result.1,
  c.order-over.ensures,
  made_walk c.order-over.result.0 c.order-over.result.1 c.clear.new.self c.push.new.self c.push-2.new.self c.clear-2.new.self c.clear.ensures c.in_ok-push.ensures.ok c.in_ok-push-2.ensures.ok
      c.clear-2.ensures,
)
