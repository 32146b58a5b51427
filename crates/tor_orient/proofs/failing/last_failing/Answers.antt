use Rattle.std.proofs.Common.{◌∙◌, subst, arith, Contains}
use Rattle.std.proofs.lemmas.Option.{slice_get_within}
use Rattle.tor_digraph.specs.Walks.{here}
use Rattle.tor_clauses.specs.Literals.{opposite_node}
use Rattle.tor_digraph.proofs.Trails.{trail_origin}
use Rattle.tor_orient.proofs.WayBack.{last_stands, origin_arc, leads_more}
use Rattle.tor_orient.proofs.failing.last_failing.Goals as goal

pub get-node-requires : goal.get-node-requires
get-node-requires c =
    let t = c.requires.trail in
    let lt = (trail_origin t.0 c.args.start c.args.tried.now t.1 c.loop-place.place c.origin_of-place.result c.loop-place-test.true c.origin_of-place.ensures).5 in
    let there = c.loop-place.invariant.there in
    omega (arith, lt, there)

pub returns-then-has-clause-failing : goal.returns-then-has-clause-failing
returns-then-has-clause-failing c = λ arcs t.
    let tried = c.args.tried.now in
    let o = c.origin_of-place.result in
    let node = c.get.result in
    let tail = c.get-node.result in
    let new = c.add.new.self.items in
    let arc = origin_arc arcs c.args.start tried t c.loop-place.place node tail o c.loop-place-test.true c.get.ensures.node c.origin_of-place.ensures c.get-node.ensures.node in
    let behind : Contains new (opposite_node tail) = subst (Contains new) c.negation_node.ensures (c.has.ensures.0 c.if-has.true) in (
      t.reached o.place tail c.get-node.ensures.node,
      leads_more arcs node tail arc c.in_ok-add.field-0 c.loop-place.behind.items new c.in_ok-add.ensures.added
          (λ n h. c.loop-place.invariant.leads arcs t node n c.get.ensures.node h) (opposite_node tail) behind,
    )

pub loop-place-smaller : goal.loop-place-smaller
loop-place-smaller c =
    let t = c.requires.trail in
    (trail_origin t.0 c.args.start c.args.tried.now t.1 c.loop-place.place c.origin_of-place.result c.loop-place-test.true c.origin_of-place.ensures).5

pub loop-place-preserved : goal.loop-place-preserved
loop-place-preserved c =
    let tried = c.args.tried.now in
    let o = c.origin_of-place.result in
    let node = c.get.result in
    let tail = c.get-node.result in
    record {
      there = slice_get_within tried.nodes.items o.place tail c.get-node.ensures.node;
      count = c.add.ensures.count ∙ c.loop-place.invariant.count;
      leads = λ arcs t m n at h.
          let arc = origin_arc arcs c.args.start tried t c.loop-place.place node m o c.loop-place-test.true c.get.ensures.node c.origin_of-place.ensures at in
          leads_more arcs node m arc c.in_ok-add.field-0 c.loop-place.behind.items c.add.new.self.items c.in_ok-add.ensures.added
          (λ n h. c.loop-place.invariant.leads arcs t node n c.get.ensures.node h) n h;
    }

pub returns-clause-failing : goal.returns-clause-failing
returns-clause-failing c = λ arcs t.
    let last = last_stands (opposite_node c.args.start) c.args.tried.now.nodes.items c.requires.found in
    (here, t.reached last.0 (opposite_node c.args.start) last.1)
