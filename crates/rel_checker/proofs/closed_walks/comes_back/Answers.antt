use Rattle.rel_checker.proofs.ComingBacks.{last_decide}
use Rattle.rel_checker.proofs.closed_walks.comes_back.Goals as goal

pub returns-then-has_pair : goal.returns-then-has_pair
returns-then-has_pair c =
    last_decide c.args.ases.now c.ends_with.result c.in-len2-up.len_at_least c.if-x-y.false (c.has_pair.ensures.0 c.if-has_pair.true) c.ends_with.ensures
