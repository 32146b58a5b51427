use Rattle.std.proofs.Common.{drop, refl}
use Rattle.tor_mend.proofs.Joining.{long_enough, refuted}
use Rattle.tor_mend.proofs.refuting.refuting_walk.Goals as goal

pub join-requires : goal.join-requires
join-requires c =
    let there = c.args.there.now in
    let back = c.args.back.now in
    long_enough c.args.fitted.now.graph c.args.fitted.now.formula c.args.start c.order-over.result.0 c.order-over.result.1 c.order-over.ensures there.nodes there.arcs back.nodes back.arcs
    c.in_ok-walk.walk c.in-Ok.rest c.negation_node-opposite.result c.negation_node-opposite.ensures c.requires.there c.requires.back c.in_ok-walk.ensures c.in-Ok.ensures

pub returns-in-Ok-join : goal.returns-in-Ok-join
returns-in-Ok-join c =
    let there = c.args.there.now in
    let back = c.args.back.now in
    refuted c.args.fitted.now.graph c.args.fitted.now.formula c.args.start c.order-over.result.0 c.order-over.result.1 c.order-over.ensures there.nodes there.arcs back.nodes back.arcs
    c.in_ok-walk.walk c.in-Ok.rest c.negation_node-opposite.result c.negation_node-opposite.ensures c.requires.there c.requires.back c.in_ok-walk.ensures c.in-Ok.ensures
    c.join.new.walk.ases c.join.new.walk.links (drop 2 c.in-Ok.rest.ases) refl c.in-Ok-join.ensures.ases c.in-Ok-join.ensures.links
