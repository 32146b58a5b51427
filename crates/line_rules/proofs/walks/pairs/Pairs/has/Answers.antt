use Rattle.line_rules.proofs.OrderLemmas.{has_exact}
use Rattle.line_rules.proofs.walks.pairs.Pairs.has.Goals as goal

pub returns : goal.returns
returns c =
    let k = has_exact c.args.self.now (c.args.first, c.args.second) in
    let e = rw c.self.view_is at c.contains.ensures in
    (λ t. k.0 (rw e at t), λ m. rw e (k.1 m))
