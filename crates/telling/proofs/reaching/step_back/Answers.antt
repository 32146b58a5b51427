use Rattle.std.proofs.Common.{◌<◌, length, sym, subst, arith}
use Rattle.result_rules.specs.File.{its_labels}
use Rattle.telling.specs.Downs.{HasOver}
use Rattle.telling.proofs.ReachLemmas.{back_more, from_within, arc_within}
use Rattle.telling.proofs.reaching.step_back.Goals as goal

pub node_at-from-requires : goal.node_at-from-requires
node_at-from-requires c = let (u, v, way) = c.requires.way in omega (arith, c.requires.inside, way.one_more)

pub link_at-link-requires : goal.link_at-link-requires
link_at-link-requires c =
    let (u, v, way) = c.requires.way in
    arc_within c.args.file.now c.args.all.now.edges c.args.downs.now.graph c.args.downs.now.links c.requires.downs c.args.way.now.nodes c.args.way.now.arcs u v way c.args.at
    c.node_at-from.result c.arc_at-arc.result c.arc_at-arc.ensures c.node_at-from.ensures

pub over_at-requires-clause-there : goal.over_at-requires-clause-there
over_at-requires-clause-there c =
    let (u, v, way) = c.requires.way in
    subst (λ n. n < length c.args.all.now.edges) (sym c.place.ensures.place)
    (from_within c.args.file.now c.args.all.now.edges c.args.downs.now.graph c.args.downs.now.links c.requires.downs c.args.way.now.nodes c.args.way.now.arcs u v way c.args.at
    c.node_at-from.result c.arc_at-arc.result c.arc_at-arc.ensures c.node_at-from.ensures)

pub returns : goal.returns
returns c over under back =
    let (u, v, way) = c.requires.way in
    let file = c.args.file.now in
    let es = c.args.all.now.edges in
    let from = c.node_at-from.result in
    back_more file es c.args.downs.now.graph c.args.downs.now.links c.requires.downs c.args.way.now.nodes c.args.way.now.arcs u v way c.args.at from c.arc_at-arc.result
    c.link_at-link.result c.arc_at-arc.ensures c.node_at-from.ensures c.link_at-link.ensures c.args.walk.now _ c.over_at.result
    (λ p q has. c.over_at.ensures p q (subst (λ n. HasOver (its_labels file) es n p q) (sym c.place.ensures.place) has)) c.in_ok-push.ensures.ok c.in_ok-push-2.ensures.ok over under back
