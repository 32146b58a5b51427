use Rattle.std.proofs.Common.{◌∙◌}
use Rattle.line_rules.proofs.OrderLemmas.{insert_new}
use Rattle.line_rules.proofs.walks.pairs.Pairs.push.Goals as goal

pub returns-clause-ok : goal.returns-clause-ok
returns-clause-ok c =
    let e = c.in_ok-insert.ensures.keys in
    let k = insert_new c.args.self.now (c.args.first, c.args.second) c.requires.new in
    rw c.self.view_is at e ∙ k
