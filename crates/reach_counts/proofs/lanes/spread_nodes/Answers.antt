use Rattle.std.proofs.Common.{arith}
use Rattle.reach_counts.proofs.Condensations.{rises}
use Rattle.reach_counts.proofs.LaneLemmas.{node-bits}
use Rattle.reach_counts.proofs.MaskLemmas.{class-or, before-none, seeds-own}
use Rattle.reach_counts.proofs.lanes.spread_nodes.Goals as goal

pub pass_all-requires-clause-rising : goal.pass_all-requires-clause-rising
pass_all-requires-clause-rising c = rises c.args.graph.now c.args.parts.now c.args.rows.now c.requires.parts c.requires.condensed

pub returns-clause-bits : goal.returns-clause-bits
returns-clause-bits c =
    let parts = c.args.parts.now in
    let rows = c.args.rows.now in
    let source = class-or parts.of parts.count c.args.base in
    let nodes = c.requires.condensed.nodes in
    node-bits c.args.graph.now parts rows c.args.base c.pass_all.new.masks c.requires.parts c.requires.condensed c.node_count.ensures.inside
    (c.pass_all.ensures.bits source (before-none rows source (rises c.args.graph.now parts rows c.requires.parts c.requires.condensed) 0 c.begin_nodes.new.masks (λ j lane there. omega arith)
    (λ k j lt lane there. seeds-own parts.of parts.count c.args.base c.begin_nodes.new.masks c.requires.parts.below c.begin_nodes.ensures.seeds k j lane (omega (arith, there, nodes)))))
