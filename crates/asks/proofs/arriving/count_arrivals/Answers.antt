use Rattle.std.proofs.Common.{◌≡◌, ◌∙◌, ◌+◌, ◌*◌, length, ap, subst, arith}
use Rattle.std.proofs.lemmas.List.{length-replicate}
use Rattle.asks.specs.Arriving.{AreArrivals}
use Rattle.asks.proofs.Arrivals.{none_arrive, more_arrive, all_few}
use Rattle.asks.proofs.arriving.count_arrivals.Goals as goal

pub loop-batch-init : goal.loop-batch-init
loop-batch-init c = record {
  masks = c.requires.masks;
  many = ap length c.requires.counts ∙ length-replicate c.args.parts.now.count 0;
  counts = none_arrive c.args.graph.now c.args.parts.now.of c.args.parts.now.count c.args.counts.now c.requires.counts;
}

pub add_ones-requires-clause-room : goal.add_ones-requires-clause-room
add_ones-requires-clause-room c = λ k n at.
    let le = all_few c.args.graph.now c.args.parts.now (c.loop-batch.batch * 64) c.loop-batch.counts c.requires.parts c.loop-batch.invariant.many
    c.loop-batch.invariant.counts k n at in
    let lt = c.loop-batch-test.true in
    let below = c.node_count-batch-end.ensures.below in
    let nodes = c.node_count-batch-end.ensures.nodes in
    omega (arith, le, lt, below, nodes)

pub loop-batch-preserved : goal.loop-batch-preserved
loop-batch-preserved c =
    let next : c.loop-batch.batch * 64 + 64 ≡ (c.loop-batch.batch + 1) * 64 = omega arith in
    let lt = c.loop-batch-test.true in
    let nodes = c.node_count-batch-end.ensures.nodes in
    record {
      masks = c.spread_nodes.ensures.many;
      many = c.add_ones.ensures.many ∙ c.loop-batch.invariant.many;
      counts = subst (λ n. AreArrivals c.args.graph.now c.args.parts.now.of n c.add_ones.new.counts) next
          (more_arrive c.args.graph.now c.args.parts.now (c.loop-batch.batch * 64) c.spread_nodes.new.masks c.spread_nodes.ensures.bits (omega (arith, lt, nodes))
          c.loop-batch.counts c.add_ones.new.counts c.loop-batch.invariant.counts c.add_ones.ensures.raised);
    }

pub returns-clause-counts : goal.returns-clause-counts
returns-clause-counts c =
    let w = c.requires.whole.1 in
    let nodes = c.node_count-batch-end.ensures.nodes in
    let done = c.loop-batch-test.false in
    let upto = c.loop-batch.auto.batch-end in
    let whole : c.loop-batch.batch * 64 ≡ c.args.graph.now.nodes = omega (arith, w, nodes, done, upto) in
    subst (λ n. AreArrivals c.args.graph.now c.args.parts.now.of n c.loop-batch.counts) whole c.loop-batch.invariant.counts
