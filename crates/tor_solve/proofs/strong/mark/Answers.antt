use Rattle.std.proofs.Common.{◌≡◌, ◌<◌, Some, length, refl, sym, subst, arith}
use Rattle.std.specs.Prelude.{slice_get}
use Rattle.std.proofs.lemmas.Option.{slice_get_read, slice_get_within}
use Rattle.tor_solve.proofs.Marking.{marked_next}
use Rattle.tor_solve.proofs.strong.mark.Goals as goal

pub loop-node-init : goal.loop-node-init
loop-node-init g c = record {
  many = refl;
  marked = λ k x lt. absurd (omega (arith, lt));
  kept = λ x none. refl;
}

pub put-requires : goal.put-requires
put-requires g c =
    let nodes = c.args.nodes.now in
    let at : slice_get nodes c.loop-node.node-index ≡ Some c.node-item.result = slice_get_read nodes (length nodes) c.loop-node.node-index c.node-item.result refl c.loop-node-test.true c.node-item.is
    in
    subst (λ n. g.N.Index.place_of c.node-item.result < n) (sym c.loop-node.invariant.many) (c.requires c.node-item.result (c.loop-node.node-index, at))

pub loop-node-preserved : goal.loop-node-preserved
loop-node-preserved g c =
    let nodes = c.args.nodes.now in
    let at : slice_get nodes c.loop-node.node-index ≡ Some c.node-item.result = slice_get_read nodes (length nodes) c.loop-node.node-index c.node-item.result refl c.loop-node-test.true c.node-item.is
    in
    let inside = subst (λ n. g.N.Index.place_of c.node-item.result < n) (sym c.loop-node.invariant.many) (c.requires c.node-item.result (c.loop-node.node-index, at)) in
    marked_next g.N.Index.place_of g.met.N.Index.is_one nodes c.args.class c.loop-node.node-index c.node-item.result at c.args.classes.now.items c.loop-node.classes.items c.put.new.self.items
    inside c.put.ensures.items c.loop-node.invariant

pub returns-clause-many : goal.returns-clause-many
returns-clause-many g c = c.loop-node.invariant.many

pub returns-clause-marked : goal.returns-clause-marked
returns-clause-marked g c = λ x h.
    let test = c.loop-node-test.false in
    let lt = slice_get_within c.args.nodes.now h.0 x h.1 in
    c.loop-node.invariant.marked h.0 x (omega (arith, test, lt)) h.1

pub returns-clause-kept : goal.returns-clause-kept
returns-clause-kept g c = λ x none. c.loop-node.invariant.kept x (λ k lt here. none (k, here))
